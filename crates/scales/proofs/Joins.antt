-- What the laws give of the effort of a history. Assumes nothing.
use Rattle.std.proofs.Common.{◌≡◌, ℕ, ◌+◌, ◌<◌, ◌≤◌, true, List, [], ◌∷◌, ◌++◌, length, get_or, take, sym, ap, ◌∙◌, arith}
use Rattle.std.proofs.lemmas.List.{take_more}
use Rattle.std.proofs.lemmas.Bool.Decides.{nat_tests}
use Rattle.histories.specs.Symbols.{events, opening, closing}
use Rattle.histories.proofs.Counts.{events-++, events-event, events-opening, events-framed, events-nil}
use Rattle.scales.specs.Measures.{Measure, Laws}
use Rattle.scales.specs.Efforts.{price, joined_costs, effort}

module _ {S : Type 0} {m : Measure S} (laws : Laws m) where
  -- an effort is at most itself
  pub reflexive : (x : S) → m.at_most x x ≡ true
  reflexive x = grind (arith, laws.total x x)

  -- the larger both, the larger joined
  pub joined_most : (x y x' y' : S) → m.at_most x x' ≡ true → m.at_most y y' ≡ true → m.at_most (m.joined x y) (m.joined x' y') ≡ true
  joined_most x y x' y' h k = laws.transitive _ _ _ (laws.kept_behind y x x' h) (laws.kept_before x' y y' k)

  -- nothing is at most any effort
  pub nothing_most : (x : S) → m.at_most m.nothing x ≡ true
  nothing_most x = ap (m.at_most m.nothing) (sym (laws.neutral_before x)) ∙ laws.not_below_first m.nothing x

  module _ (costs : List ℕ) where
    pub costs-++ : (es fs : List ℕ) → joined_costs m costs (es ++ fs) ≡ m.joined (joined_costs m costs es) (joined_costs m costs fs)
    unfolding joined_costs
    costs-++ [] fs = grind (arith, laws.neutral_before)
    costs-++ (e ∷ es) fs = grind (arith, laws.associative, costs-++ es fs)

    pub costs_one : (e : ℕ) → joined_costs m costs (e ∷ []) ≡ price m costs e
    unfolding joined_costs
    costs_one e = laws.neutral_behind _

    -- the effort of two histories, one behind the other
    pub effort-++ : (u v : List ℕ) → effort m costs (u ++ v) ≡ m.joined (effort m costs u) (effort m costs v)
    effort-++ u v = grind (arith, events-++ u v, costs-++ (events u) (events v))

    pub effort-nil : effort m costs [] ≡ m.nothing
    unfolding joined_costs
    effort-nil = ap (joined_costs m costs) events-nil

    pub effort-event : (e : ℕ) → e < 256 → effort m costs (e ∷ []) ≡ price m costs e
    unfolding joined_costs
    effort-event e h = grind (arith, events-event e h, laws.neutral_behind)

    -- an opening costs nothing, nor does a framing
    pub effort-opening : (p : ℕ) (w : List ℕ) → effort m costs (opening p ∷ w) ≡ effort m costs w
    effort-opening p w = ap (joined_costs m costs) (events-opening p w)

    pub effort-framed : (p : ℕ) (u : List ℕ) → effort m costs (opening p ∷ (u ++ (closing p ∷ []))) ≡ effort m costs u
    effort-framed p u = ap (joined_costs m costs) (events-framed p u)

    -- no symbol: nothing
    pub effort-no_event : (s : ℕ) → 256 ≤ s → effort m costs (s ∷ []) ≡ m.nothing
    unfolding joined_costs events
    effort-no_event s h = grind (arith, nat_tests)

    -- one symbol more
    pub effort-more : (w : List ℕ) (i : ℕ) → i < length w → effort m costs (take (i + 1) w) ≡ m.joined (effort m costs (take i w)) (effort m costs (get_or w i 0 ∷ []))
    effort-more w i within = rw (take_more w i 0 within) (effort-++ (take i w) (get_or w i 0 ∷ []))

    pub effort-priced : (w : List ℕ) (i : ℕ) → i < length w → get_or w i 0 < 256 → effort m costs (take (i + 1) w) ≡ m.joined (effort m costs (take i w)) (price m costs (get_or w i 0))
    effort-priced w i within low = effort-more w i within ∙ ap (m.joined (effort m costs (take i w))) (effort-event (get_or w i 0) low)

    pub effort-unpriced : (w : List ℕ) (i : ℕ) → i < length w → 256 ≤ get_or w i 0 → effort m costs (take (i + 1) w) ≡ effort m costs (take i w)
    effort-unpriced w i within high = effort-more w i within ∙ ap (m.joined (effort m costs (take i w))) (effort-no_event (get_or w i 0) high) ∙ laws.neutral_behind _
