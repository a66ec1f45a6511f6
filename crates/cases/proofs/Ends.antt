-- Lists of states with efforts, as bounds of the efforts with which the states are reached. Assumes nothing.
use Rattle.std.proofs.Common.{◌≡◌, ℕ, Bool, true, ◌&&◌, eqb, List, [], ◌∷◌, ◌++◌, map, arith}
use Rattle.std.specs.List.{flat_map, list_all, list_any}
use Rattle.std.proofs.lemmas.Bool.Decides.{nat_tests}
use Rattle.std.proofs.lemmas.Bool.{false≢true}
use Rattle.scales.specs.Measures.{Measure, Laws}
use Rattle.scales.proofs.Joins.{joined_most}

module _ {S : Type 0} (m : Measure S) where
  -- states, each with an effort
  abbrev pub Ends : Type 0
  Ends = List (ℕ × S)

  -- these, behind an effort; and behind others
  abbrev raised : S → Ends → Ends
  raised x = map (λ e. (e.0, m.joined x e.1))

  abbrev pub behind : Ends → (ℕ → Ends) → Ends
  behind es f = flat_map (λ e. raised e.1 (f e.0)) es

  -- an effort that is listed with the state is at most this one
  pub data Covers : Ends → ℕ → S → Type 0 where
    here : {es : Ends} {k : ℕ} {x y : S} → m.at_most x y ≡ true → Covers ((k, x) ∷ es) k y
    there : {es : Ends} {e : ℕ × S} {k : ℕ} {y : S} → Covers es k y → Covers (e ∷ es) k y

  abbrev pub covers : Ends → ℕ → S → Bool
  covers es k y = list_any (λ e. eqb e.0 k && m.at_most e.1 y) es

  abbrev pub every : (ℕ → S → Bool) → Ends → Bool
  every f = list_all (λ e. f e.0 e.1)

  covers_true : (es : Ends) (k : ℕ) (y : S) → covers es k y ≡ true → Covers es k y
  covers_true [] k y h = absurd (false≢true h)
  covers_true (e ∷ es) k y h = grind (arith, nat_tests, Covers.here, Covers.there, covers_true es k y)

  pub covers_first : {es : Ends} (fs : Ends) {k : ℕ} {y : S} → Covers es k y → Covers (es ++ fs) k y
  covers_first fs (Covers.here h) = Covers.here h
  covers_first fs (Covers.there t) = Covers.there (covers_first fs t)

  pub covers_second : (es : Ends) {fs : Ends} {k : ℕ} {y : S} → Covers fs k y → Covers (es ++ fs) k y
  covers_second [] t = t
  covers_second (e ∷ es) t = Covers.there (covers_second es t)

  pub covers_same : {es : Ends} {j k : ℕ} {x y : S} → j ≡ k → x ≡ y → Covers es k y → Covers es j x
  covers_same p q t = rw (p, q) t

  -- a test of all that is listed holds of an effort at or below one that is covered
  pub every_at : (f : ℕ → S → Bool) {es : Ends} {k : ℕ} {y : S} → every f es ≡ true → Covers es k y → (x : S) × (m.at_most x y ≡ true) × (f k x ≡ true)
  every_at f h (Covers.here {es} {k} {x} {y} l) = (x, l, grind arith)
  every_at f h (Covers.there {e} t) = every_at f (grind arith) t

  module _ (laws : Laws m) where
    covers_more : {es : Ends} {k : ℕ} {x y : S} → m.at_most x y ≡ true → Covers es k x → Covers es k y
    covers_more h (Covers.here l) = Covers.here (laws.transitive _ _ _ l h)
    covers_more h (Covers.there t) = Covers.there (covers_more h t)

    covers_raised : {es : Ends} {k : ℕ} {x x' y : S} → m.at_most x x' ≡ true → Covers es k y → Covers (raised x es) k (m.joined x' y)
    covers_raised h (Covers.here l) = Covers.here (joined_most laws _ _ _ _ h l)
    covers_raised h (Covers.there t) = Covers.there (covers_raised h t)

    pub covers_behind : {es : Ends} (f : ℕ → Ends) {k j : ℕ} {x y : S} → Covers es k x → Covers (f k) j y → Covers (behind es f) j (m.joined x y)
    covers_behind f (Covers.here l) t = covers_first _ (covers_raised l t)
    covers_behind f (Covers.there {e} s) t = covers_second (raised e.1 (f e.0)) (covers_behind f s t)

    pub through : {es fs : Ends} {k : ℕ} {y : S} → every (covers fs) es ≡ true → Covers es k y → Covers fs k y
    through {es} {fs} {k} h t = let (x, less, listed) = every_at (covers fs) h t in covers_more less (covers_true fs k x listed)
