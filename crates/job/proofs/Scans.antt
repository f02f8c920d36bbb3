-- The runs of a text, from one place to the next.
use Rattle.std.proofs.Common.{◌≡◌, ℕ, suc, ◌+◌, ◌-◌, ◌<◌, ◌≤◌, Bool, true, false, cond, not, List, [], ◌∷◌, length, get_or, take, drop, Some, None, Ok, Err, IsAscii, Option, sym, refl, ap, ◌∙◌, ⊎_elim, arith, length-drop}
use Rattle.std.specs.List.{prefix_len, position, position_from}
use Rattle.std.specs.Option.{option_map}
use Rattle.std.proofs.lemmas.Iterator.Adapters.{position_from-zero}
use Rattle.std.proofs.lemmas.Str.Ascii.{IsAscii-nil, IsAscii-cons}
use Rattle.std.proofs.lemmas.List.{at_drop_all, drop-drop, get_or-drop, take_rest}
use Rattle.std.proofs.lemmas.List.Sums.{prefix_len_stops}
use Rattle.std.proofs.lemmas.Bool.{cases_lt, cond-true, cond-false}
use Rattle.std.proofs.lemmas.Bool.Decides.{nat_tests}
use Rattle.job.specs.Runs.{Run, run_at, blank, front, runs_from, runs_at, of_sort, wrong, sort_of, sorted, sort}
use Rattle.job.specs.declared.tokens.Sort.{Sort}
use Rattle.job.specs.declared.tokens.Sort.TheVariants.{Letter, Digit}

-- the blanks in front are passed
skip_by : (place b : ℕ) (bs : List ℕ) (n : ℕ) (t : Bool) → blank b ≡ t → runs_from false (place + 1) bs ≡ runs_from false (place + 1 + n) (drop n bs) → runs_from false place (b ∷ bs) ≡ runs_from false (place + cond t (1 + n) 0) (drop (cond t (1 + n) 0) (b ∷ bs))
skip_by place b bs n true e h =
    let more : suc n ≡ 1 + n = omega arith in
    cond-true _ _ _ e ∙ h ∙ ap (λ k. runs_from false k (drop n bs)) (omega arith) ∙ ap (λ k. runs_from false (place + k) (drop k (b ∷ bs))) more
skip_by place b bs n false e h = ap (λ k. runs_from false k (b ∷ bs)) (omega arith)

pub runs_skip : (place : ℕ) (bs : List ℕ) → runs_from false place bs ≡ runs_from false (place + prefix_len blank bs) (drop (prefix_len blank bs) bs)
runs_skip place [] = refl
runs_skip place (b ∷ bs) = skip_by place b bs (prefix_len blank bs) (blank b) refl (runs_skip (place + 1) bs)

-- a run that has begun goes on to its end
goes_by : (place b : ℕ) (bs : List ℕ) (t : Bool) → blank b ≡ t → runs_from true (place + 1) bs ≡ runs_from false (place + 1 + length (front bs)) (drop (length (front bs)) bs) → runs_from true place (b ∷ bs) ≡ runs_from false (place + length (cond t [] (b ∷ front bs))) (drop (length (cond t [] (b ∷ front bs))) (b ∷ bs))
goes_by place b bs true e h = cond-true _ _ _ e ∙ sym (cond-true _ _ _ e) ∙ ap (λ k. runs_from false k (b ∷ bs)) (omega arith)
goes_by place b bs false e h = cond-false _ _ _ e ∙ h ∙ ap (λ k. runs_from false k (drop (length (front bs)) bs)) (omega arith)

runs_go : (place : ℕ) (bs : List ℕ) → runs_from true place bs ≡ runs_from false (place + length (front bs)) (drop (length (front bs)) bs)
runs_go place [] = refl
runs_go place (b ∷ bs) = goes_by place b bs (blank b) refl (runs_go (place + 1) bs)

-- bytes that do not begin with a blank begin with a run
runs_first : (place : ℕ) (bs : List ℕ) → 0 < length bs → blank (get_or bs 0 0) ≡ false → (0 < length (front bs)) × (runs_from false place bs ≡ run_at place (front bs) ∷ runs_from false (place + length (front bs)) (drop (length (front bs)) bs))
runs_first place [] h e = absurd (omega arith)
runs_first place (b ∷ bs) h e =
    let whole : front (b ∷ bs) ≡ b ∷ front bs = cond-false _ _ _ e in (
      omega (arith, ap length whole),
      cond-false _ _ _ e
          ∙ ap (λ (cs : List ℕ). run_at place cs ∷ runs_from true (place + 1) bs) (sym whole)
          ∙ ap (λ (rs : List Run). run_at place (front (b ∷ bs)) ∷ rs) (sym (cond-false _ _ _ e) ∙ runs_go place (b ∷ bs)),
    )

-- the bytes up to the first blank
front_by : (b : ℕ) (bs : List ℕ) (n : ℕ) (t : Bool) → take n bs ≡ front bs → take (cond (not t) (1 + n) 0) (b ∷ bs) ≡ cond t [] (b ∷ front bs)
front_by b bs n true h = refl
front_by b bs n false h =
    let more : 1 + n ≡ suc n = omega arith in
    ap (λ k. take k (b ∷ bs)) more ∙ ap (λ (cs : List ℕ). b ∷ cs) h

pub front_taken : (bs : List ℕ) → take (prefix_len (λ b. not (blank b)) bs) bs ≡ front bs
front_taken [] = refl
front_taken (b ∷ bs) = front_by b bs (prefix_len (λ b. not (blank b)) bs) (blank b) (front_taken bs)

-- the place of the byte that spoils a run, from how many bytes stand before it
wrong_by : (place n : ℕ) (t : Bool) (o p : Option ℕ) → p ≡ option_map (λ k. place + k) o → cond t p (Some (place + n)) ≡ option_map (λ k. place + k) (cond (not t) (Some n) o)
wrong_by place n true o p h = h
wrong_by place n false o p h = refl

wrong_from : (test : ℕ → Bool) (place n : ℕ) (bs : List ℕ) → wrong test (place + n) bs ≡ option_map (λ k. place + k) (position_from (λ b. not (test b)) n bs)
wrong_from test place n [] = refl
wrong_from test place n (b ∷ bs) =
    wrong_by place n (test b) (position_from (λ b. not (test b)) (n + 1) bs) (wrong test (place + n + 1) bs)
    (ap (λ k. wrong test k bs) (omega arith) ∙ wrong_from test place (n + 1) bs)

pub wrong_is : (test : ℕ → Bool) (place : ℕ) (bs : List ℕ) → wrong test place bs ≡ option_map (λ k. place + k) (position (λ b. not (test b)) bs)
wrong_is test place bs =
    ap (λ k. wrong test k bs) (omega arith)
    ∙ wrong_from test place 0 bs
    ∙ ap (option_map (λ k. place + k)) (sym (position_from-zero (λ b. not (test b)) bs))

-- a run that nothing spoils is below 128
sort_low : (s : Sort) (b : ℕ) → of_sort s b ≡ true → b < 128
sort_low Letter b e = grind (arith, nat_tests)
sort_low Digit b e = grind (arith, nat_tests)

low_by : (s : Sort) (place b : ℕ) (bs : List ℕ) (t : Bool) → of_sort s b ≡ t → cond t (wrong (of_sort s) (place + 1) bs) (Some place) ≡ None → (wrong (of_sort s) (place + 1) bs ≡ None → IsAscii bs) → IsAscii (b ∷ bs)
low_by s place b bs true q e go = IsAscii-cons b bs (sort_low s b q) (go e)
low_by s place b bs false q e go = cc

pub unspoiled_low : (s : Sort) (place : ℕ) (bs : List ℕ) → wrong (of_sort s) place bs ≡ None → IsAscii bs
unspoiled_low s place [] e = IsAscii-nil
unspoiled_low s place (b ∷ bs) e = low_by s place b bs (of_sort s b) refl e (unspoiled_low s (place + 1) bs)

-- the sort of a run, by its first byte and what spoils it
module _ (place : ℕ) (run : List ℕ) (s : Sort) (o : Option ℕ) (of : s ≡ sort_of run) (spoil : o ≡ position (λ b. not (of_sort s b)) run) where
  spoils : wrong (of_sort s) place run ≡ option_map (λ k. place + k) o
  spoils = wrong_is (of_sort s) place run ∙ ap (option_map (λ k. place + k)) (sym spoil)

  run_sort : sort (run_at place run) ≡ sorted s (option_map (λ k. place + k) o)
  run_sort = ap (λ x. sorted x (wrong (of_sort x) place run)) (sym of) ∙ ap (sorted s) spoils

  pub run_good : o ≡ None → sort (run_at place run) ≡ Ok s
  run_good e = run_sort ∙ ap (λ x. sorted s (option_map (λ k. place + k) x)) e

  pub run_bad : (n : ℕ) → o ≡ Some n → sort (run_at place run) ≡ Err (place + n)
  run_bad n e = run_sort ∙ ap (λ x. sorted s (option_map (λ k. place + k) x)) e

  pub run_clean : o ≡ None → wrong (of_sort s) place run ≡ None
  run_clean e = spoils ∙ ap (option_map (λ k. place + k)) e

-- the run that is found from a place on, n blanks later
module _ (text : List ℕ) (from n : ℕ) (skip : n ≡ prefix_len blank (take (length text - from) (drop from text))) where
  skipped : n ≡ prefix_len blank (drop from text)
  skipped = skip ∙ ap (prefix_len blank) (take_rest text from)

  passed : runs_at from text ≡ runs_at (from + n) text
  passed =
      runs_skip from (drop from text)
      ∙ ap (λ k. runs_from false (from + k) (drop k (drop from text))) (sym skipped)
      ∙ ap (runs_from false (from + n)) (drop-drop n from text)

  solid : from + n < length text → blank (get_or (drop (from + n) text) 0 0) ≡ false
  solid h =
      let stops = prefix_len_stops blank (drop from text) 0 (omega (arith, skipped, length-drop from text)) in
      ap blank (get_or-drop (from + n) text 0 0 ∙ ap (λ k. get_or text k 0) (omega (arith, skipped)) ∙ sym (get_or-drop from text (prefix_len blank (drop from text)) 0)) ∙ stops

  module _ (k : ℕ) (len : k ≡ prefix_len (λ b. not (blank b)) (take (length text - (from + n)) (drop (from + n) text))) where
    abbrev pub part : List ℕ
    part = take k (take (length text - (from + n)) (drop (from + n) text))

    bytes : part ≡ front (drop (from + n) text)
    bytes =
        ap (λ i. take i (take (length text - (from + n)) (drop (from + n) text))) len
        ∙ front_taken (take (length text - (from + n)) (drop (from + n) text))
        ∙ ap front (take_rest text (from + n))

    first : from + n < length text → (0 < length part) × (runs_at from text ≡ run_at (from + n) part ∷ runs_at (from + n + length part) text)
    first h =
        let place = from + n in
        let f = runs_first place (drop place text) (omega (arith, length-drop place text)) (solid h) in (
          rw bytes f.0,
          rw bytes (passed ∙ f.1 ∙ ap (λ (bs : List ℕ). run_at place (front (drop place text)) ∷ runs_from false (place + length (front (drop place text))) bs) (drop-drop (length (front (drop place text))) place text)),
        )

    none : length text ≤ from + n → (part ≡ []) × (runs_at from text ≡ [])
    none h = (bytes ∙ at_drop_all front text (from + n) h, passed ∙ at_drop_all (runs_from false (from + n)) text (from + n) h)

    pub run_none : length part ≡ 0 → from + n ≤ length text → (runs_at from text ≡ []) × (from + n + length part ≡ length text)
    run_none e h = ⊎_elim
        (λ below. absurd (omega (arith, (first below).0)))
        (λ above. ((none above).1, omega arith))
        (cases_lt (from + n) (length text))

    pub run_some : 0 < length part → runs_at from text ≡ run_at (from + n) part ∷ runs_at (from + n + length part) text
    run_some h = ⊎_elim
        (λ below. (first below).1)
        (λ above. absurd (omega (arith, ap length (none above).0)))
        (cases_lt (from + n) (length text))
