-- The digits that a text begins with. Assumes nothing.
use Rattle.std.proofs.Common.{◌≡◌, ℕ, ◌^◌, ◌+◌, ◌-◌, ◌*◌, ◌%◌, ◌<◌, List, [], ◌∷◌, ◌++◌, length, take, drop, fold, decimal, true, false, refl, sym, ap, ◌∙◌, subst, ⊎_elim, arith, add-zero}
use Rattle.std.specs.Char.{digit_value, is_ascii_digit}
use Rattle.std.specs.Int.{IsInRange}
use Rattle.std.specs.List.{prefix_len, take_while}
use Rattle.std.specs.Str.Parse.{digits_value, digits_value_after, AllDigits}
use Rattle.std.proofs.lemmas.Bool.Decides.{nat_tests}
use Rattle.std.proofs.lemmas.Fmt.{length-decimal-le, decimal_nonempty, first_decimal, decimal-digits_value}
use Rattle.std.proofs.lemmas.List.{take-append-drop, get_or-take, get_or-drop, get_or_past}
use Rattle.std.proofs.lemmas.List.Folds.{length-prefix_len}
use Rattle.std.proofs.lemmas.List.Sums.{prefix_len_passes, prefix_len_stops}
use Rattle.std.proofs.lemmas.Str.{digit_value_digit}
use Rattle.std.proofs.lemmas.Str.Parse.{digit_from_value, digits_value_short, numerals_by_value, tells_by_index}
use Rattle.std.proofs.str.Laws.{order}
use Rattle.records.specs.Written.{written}
use Rattle.records.proofs.Numbers.{written_is}
use Rattle.texts.specs.Fields.{Small, Past, IsSpelled, Number}
use Rattle.texts.proofs.Numbers.{own, same_run, written_digits}

decimal_is_spelled : (n : ℕ) → Small n → IsSpelled (decimal n)
decimal_is_spelled n small =
    record {
      some = decimal_nonempty n (omega arith);
      few = length-decimal-le 10 n (omega arith) small (omega arith);
      lead = λ zero. ⊎_elim (λ some. absurd (omega (arith, first_decimal n some (omega arith), zero))) (λ none. omega (arith, length-decimal-le 1 n (omega arith) (omega arith) (omega arith), decimal_nonempty n (omega arith))) (order 0 n);
    }

small_value : (ds : List ℕ) → AllDigits 10 ds → IsSpelled ds → Small (digits_value 10 ds)
small_value ds all good = digits_value_short own ds 10 all good.few

-- a number with one digit more, as machine numbers count
abbrev pub pushed : ℕ → ℕ → ℕ
pushed n c = (n * 10 % 2 ^ 64 + (c + (2 ^ 8 - 48)) % 2 ^ 8) % 2 ^ 64

pushed_is : (n c : ℕ) → digit_value c < 10 → pushed (n % 2 ^ 64) c ≡ (n * 10 + digit_value c) % 2 ^ 64
pushed_is n c h = omega (arith, digit_from_value c h, digit_value_digit c (digit_from_value c h))

folds_after : (ds : List ℕ) (n : ℕ) → AllDigits 10 ds → fold pushed (n % 2 ^ 64) ds ≡ digits_value_after 10 n ds % 2 ^ 64
folds_after [] n all = refl
folds_after (c ∷ ds) n all = rw (pushed_is n c all.0) (folds_after ds (n * 10 + digit_value c) all.1)

-- ten digits fit, so nothing is lost
pub value_folds : (ds : List ℕ) → AllDigits 10 ds → IsSpelled ds → fold pushed 0 ds ≡ digits_value 10 ds
value_folds ds all good = omega (arith, folds_after ds 0 all, small_value ds all good)

is_digit : (c : ℕ) → is_ascii_digit c ≡ true → IsInRange 48 57 c
is_digit c e = grind (arith, nat_tests)

no_digit : (c : ℕ) → is_ascii_digit c ≡ false → ¬ (IsInRange 48 57 c)
no_digit c e h = grind (arith, nat_tests)

module _ (text : List ℕ) where
  abbrev pub digits : List ℕ
  digits = take_while is_ascii_digit text

  abbrev pub behind : List ℕ
  behind = drop (length digits) text

  pub front : take (length digits) text ≡ digits
  front = rw length-prefix_len refl

  split : text ≡ digits ++ behind
  split = rw length-prefix_len (sym (take-append-drop (prefix_len is_ascii_digit text) text))

  pub all_digits : AllDigits 10 digits
  all_digits =
      (numerals_by_value _ tells_by_index).to digits
      (λ i h.
      let lt = rw length-prefix_len at h in
      rw get_or-take (is_digit _ (prefix_len_passes is_ascii_digit text i 0 lt)))

  past_digits : Past behind
  past_digits =
      ⊎_elim
      (λ lt. rw (length-prefix_len, get_or-drop, add-zero) (no_digit _ (prefix_len_stops is_ascii_digit text 0 lt)))
      (λ le. rw (length-prefix_len, get_or-drop, add-zero, get_or_past text (prefix_len is_ascii_digit text) 0 le) (λ h. omega (arith, h)))
      (order (prefix_len is_ascii_digit text) (length text))

  -- where the text begins with a number, these are its digits
  pub number_is_spelled : {n : ℕ} {rest : List ℕ} → Number text n rest → IsSpelled digits
  number_is_spelled {n} {rest} number =
      let same = same_run digits (written n) behind rest all_digits (written_digits n number.small) past_digits number.past (sym split ∙ number.reads) in
      subst IsSpelled (sym (same.0 ∙ written_is n (omega (arith, number.small)))) (decimal_is_spelled n number.small)

  pub number_from_digits : IsSpelled digits → Number text (digits_value 10 digits) behind
  number_from_digits good =
      let small = small_value digits all_digits good in
      let back = decimal-digits_value own digits all_digits good.some good.lead (omega (arith, small)) in
      record {
        small = small;
        past = past_digits;
        reads = split ∙ ap (λ l. l ++ behind) (sym (written_is _ (omega (arith, small)) ∙ back));
      }
