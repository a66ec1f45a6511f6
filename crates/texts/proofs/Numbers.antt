-- Numbers as they are written. Assumes nothing.
use Rattle.std.proofs.Common.{◌≡◌, ℕ, List, [], ◌∷◌, ◌++◌, decimal, sym, refl, ap, ◌∙◌, subst, arith}
use Rattle.std.specs.Str.Parse.{digits_value, AllDigits}
use Rattle.std.proofs.lemmas.Fmt.{digits_decimal, digits_value-decimal}
use Rattle.std.proofs.lemmas.Str.Parse.{IsNumeralModel, numerals_by_value, tells_digits, digit_from_value}
use Rattle.records.specs.Written.{written}
use Rattle.records.proofs.Numbers.{written_is}
use Rattle.texts.specs.Fields.{Small, Past}

-- the words of the standard library for digits and their value
pub own : IsNumeralModel (AllDigits 10) (digits_value 10)
own = numerals_by_value (AllDigits 10) tells_digits

pub written_digits : (n : ℕ) → Small n → AllDigits 10 (written n)
written_digits n small = subst (AllDigits 10) (sym (written_is n (omega arith))) (digits_decimal own n (omega arith))

-- where the digits end, the rest begins
pub same_run : (xs ys r s : List ℕ) → AllDigits 10 xs → AllDigits 10 ys → Past r → Past s → xs ++ r ≡ ys ++ s → (xs ≡ ys) × (r ≡ s)
same_run [] [] r s dx dy pr ps e = (refl, e)
same_run [] (y ∷ ys) r s dx dy pr ps e = grind (arith, digit_from_value)
same_run (x ∷ xs) [] r s dx dy pr ps e = grind (arith, digit_from_value)
same_run (x ∷ xs) (y ∷ ys) r s dx dy pr ps e = grind (arith, same_run xs ys r s)

-- a number and what follows it are read in one way; the first two parts show grind what to look for
pub same_number : (m n : ℕ) (r s : List ℕ) → Small m → Small n → Past r → Past s → written m ++ r ≡ written n ++ s → (written m ++ r ≡ written m ++ r) × (written n ++ s ≡ written n ++ s) × (m ≡ n) × (r ≡ s)
same_number m n r s sm sn pr ps e =
    let parts = same_run (written m) (written n) r s (written_digits m sm) (written_digits n sn) pr ps e in
    let same : decimal m ≡ decimal n = sym (written_is m (omega arith)) ∙ parts.0 ∙ written_is n (omega arith) in
    (refl, refl, sym (digits_value-decimal own m (omega arith)) ∙ ap (digits_value 10) same ∙ digits_value-decimal own n (omega arith), parts.1)
