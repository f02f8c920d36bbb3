-- A number in base ten is read as itself.
use Rattle.std.proofs.Common.{◌≡◌, ℕ, ◌+◌, ◌^◌, ◌<◌, ◌≤◌, Bool, true, false, cond, ◌&&◌, eqb, ltb, leb, List, [], ◌∷◌, length, get_or, Some, None, Ok, decimal, sym, refl, ap, ◌∙◌, ⊎_elim, arith}
use Rattle.std.specs.Char.{is_ascii_digit}
use Rattle.std.specs.Str.{all_ascii_digits}
use Rattle.std.proofs.lemmas.Fmt.{digits_decimal, digits_value-decimal, first_decimal, decimal_digit}
use Rattle.std.proofs.lemmas.Str.Parse.{IsNumeralModel, numerals_by_fold, tells_all_ascii_digits}
use Rattle.std.proofs.lemmas.Bool.{and_parts, cases_lt, cond-true, cond-false, cond_both, ne_eqb}
use Rattle.std.proofs.lemmas.Bool.Decides.{nat_tests}
use Rattle.job.specs.Limits.{max_number}
use Rattle.job.specs.Runs.{run_at, letter, digit, of_sort, sort_of, wrong, sorted, sort}
use Rattle.job.specs.Numerals.{read_on, needless_zero, numeral}
use Rattle.job.specs.Content.{Content}
use Rattle.job.specs.States.{state}
use Rattle.job.specs.Steps.{value_step, takes_number, read_step, sort_step, step}
use Rattle.job.specs.declared.expected.Expected.{Expected}
use Rattle.job.specs.declared.tokens.Sort.TheVariants.{Digit}
use Rattle.job.proofs.Values.{numeral_small}

pub own : IsNumeralModel (λ ds. all_ascii_digits ds ≡ true) (read_on 0)
own = numerals_by_fold (λ ds. all_ascii_digits ds ≡ true) tells_all_ascii_digits read_on (record { empty = λ n. refl; more = λ n c cs h. refl })

cond_and : (x y : Bool) → cond x y false ≡ (x && y)
cond_and true y = refl
cond_and false y = refl

pub digit_ascii : (b : ℕ) → digit b ≡ is_ascii_digit b
digit_ascii b = cond_and (leb 48 b) (leb b 57)

unspoiled : (p : ℕ) (ds : List ℕ) → all_ascii_digits ds ≡ true → wrong (of_sort Digit) p ds ≡ None
unspoiled p [] e = refl
unspoiled p (d ∷ ds) e =
    let both = and_parts (is_ascii_digit d) (all_ascii_digits ds) e in
    cond-true _ _ _ (digit_ascii d ∙ both.0) ∙ unspoiled (p + 1) ds both.1

not_letter : (d : ℕ) → is_ascii_digit d ≡ true → letter d ≡ false
not_letter d e = grind (arith, nat_tests)

first_digit : (ds : List ℕ) → all_ascii_digits ds ≡ true → sort_of ds ≡ Digit
first_digit [] e = refl
first_digit (d ∷ ds) e = cond-false _ _ _ (not_letter d (and_parts (is_ascii_digit d) (all_ascii_digits ds) e).0)

pub number_sort : (p : ℕ) (ds : List ℕ) → all_ascii_digits ds ≡ true → sort (run_at p ds) ≡ Ok Digit
number_sort p ds e = ap (λ b. sorted b (wrong (of_sort b) p ds)) (first_digit ds e) ∙ ap (sorted Digit) (unspoiled p ds e)

module _ (n : ℕ) (small : n ≤ max_number) where
  fits : n < 2 ^ 64
  fits = omega arith

  needless_not : needless_zero (decimal n) ≡ false
  needless_not =
      ⊎_elim
      (λ some. cond_both (ltb 1 (length (decimal n))) (eqb (get_or (decimal n) 0 0) 48) false (λ b. b ≡ false) (λ _. ne_eqb (get_or (decimal n) 0 0) 48 (λ q. omega (arith, first_decimal n some fits))) (λ _. refl))
      (λ none. let zero' : n ≡ 0 = omega arith in ap (λ k. needless_zero (decimal k)) zero' ∙ ap needless_zero (decimal_digit 0 (omega arith)))
      (cases_lt 0 n)

  pub decimal_numeral : numeral (decimal n) ≡ Some n
  decimal_numeral = numeral_small (decimal n) n needless_not small (sym (digits_value-decimal own n fits))

  -- the run of a number where one may come
  pub number_run : (e : Expected) (c : Content) (p : ℕ) → takes_number e ≡ true → step (state e c) (run_at p (decimal n)) ≡ value_step e c n p
  number_run e c p takes =
      ap (sort_step (state e c) (run_at p (decimal n))) (number_sort p (decimal n) (digits_decimal own n fits))
      ∙ cond-true _ _ _ takes
      ∙ ap (read_step e c p) decimal_numeral
