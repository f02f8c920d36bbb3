-- What the steps that were taken tell of their runs.
use Rattle.std.proofs.Common.{◌≡◌, ℕ, ◌+◌, ◌<◌, ◌≤◌, Bool, true, false, cond, ◌&&◌, leb, List, [], ◌∷◌, length, get_or, Some, None, Ok, Err, codes, decimal, Option, Result, sym, refl, ap, ◌∙◌, subst, arith}
use Rattle.std.specs.Char.{is_ascii_digit}
use Rattle.std.specs.List.{AllByRecursion}
use Rattle.std.specs.Str.{bytes_eq, all_ascii_digits}
use Rattle.std.proofs.lemmas.Fmt.{decimal-digits_value}
use Rattle.std.proofs.lemmas.Slice.Eq.{bytes_eq-Decides}
use Rattle.std.proofs.lemmas.Bool.{and_from, leb-true}
use Rattle.std.proofs.lemmas.Bool.Decides.{nat_tests}
use Rattle.job.specs.Limits.{max_number}
use Rattle.job.specs.Faults.{Finding, finding}
use Rattle.job.specs.Runs.{Run, digit, of_sort, sort_of, wrong, sorted, sort}
use Rattle.job.specs.Numerals.{read_on, needless_zero, numeral}
use Rattle.job.specs.Content.{Content, with_kind}
use Rattle.job.specs.Words.{kind_word, kind_named, title_word}
use Rattle.job.specs.States.{State, state}
use Rattle.job.specs.Steps.{kind_step, word_step, value_step, takes_number, read_step, sort_step, step}
use Rattle.job.specs.Reading.{by_answer, walk}
use Rattle.job.specs.declared.accepted.Kind.{Kind}
use Rattle.job.specs.declared.accepted.Kind.TheVariants.{Mismatch, Difference, Mixed}
use Rattle.job.specs.declared.expected.Section.{Section}
use Rattle.job.specs.declared.expected.Section.TheVariants.{Size}
use Rattle.job.specs.declared.expected.Expected.{Expected}
use Rattle.job.specs.declared.tokens.Sort.{Sort}
use Rattle.job.specs.declared.tokens.Sort.TheVariants.{Letter, Digit}
use Rattle.job.specs.declared.expected.Expected.TheVariants.{KindWord, Title, Count, Number, PinNumber, End}
use Rattle.job.proofs.Decimal.{own, digit_ascii}
use Rattle.job.proofs.Leading.{empty_kind}

-- what an answer that is known tells
pub ok_same : {A F : Type 0} (x t : A) → ◌≡◌ {A = Result A F} (Ok x) (Ok t) → x ≡ t
ok_same x t e = cc

pub ok_if : {A F : Type 0} (b : Bool) (x t : A) (f : F) → ◌≡◌ {A = Result A F} (cond b (Ok x) (Err f)) (Ok t) → (b ≡ true) × (x ≡ t)
ok_if true x t f e = (refl, cc)
ok_if false x t f e = cc

pub ok_unless : {A F : Type 0} (b : Bool) (x t : A) (f : F) → ◌≡◌ {A = Result A F} (cond b (Err f) (Ok x)) (Ok t) → (b ≡ false) × (x ≡ t)
ok_unless true x t f e = cc
ok_unless false x t f e = (refl, cc)

-- a run of digits
all_digits_by : (p d : ℕ) (ds : List ℕ) (t : Bool) → digit d ≡ t → cond t (wrong (of_sort Digit) (p + 1) ds) (Some p) ≡ None → (wrong (of_sort Digit) (p + 1) ds ≡ None → all_ascii_digits ds ≡ true) → (is_ascii_digit d && all_ascii_digits ds) ≡ true
all_digits_by p d ds true q e go = and_from _ _ (sym (digit_ascii d) ∙ q) (go e)
all_digits_by p d ds false q e go = cc

pub all_digits : (p : ℕ) (ds : List ℕ) → wrong (of_sort Digit) p ds ≡ None → all_ascii_digits ds ≡ true
all_digits p [] e = refl
all_digits p (d ∷ ds) e = all_digits_by p d ds (digit d) refl e (all_digits (p + 1) ds)

sorted_number : (l : Sort) (o : Option ℕ) → sorted l o ≡ Ok Digit → (l ≡ Digit) × (o ≡ None)
sorted_number l None e = (cc, refl)
sorted_number l (Some p) e = cc

sort_digits : (r : Run) → sort r ≡ Ok Digit → all_ascii_digits r.bytes ≡ true
sort_digits r e =
    let both = sorted_number (sort_of r.bytes) (wrong (of_sort (sort_of r.bytes)) r.place r.bytes) e in
    all_digits r.place r.bytes (ap (λ b. wrong (of_sort b) r.place r.bytes) (sym both.0) ∙ both.1)

numeral_by : (a b : Bool) (v n : ℕ) → cond a None (cond b (Some v) None) ≡ Some n → (a ≡ false) × (b ≡ true) × (v ≡ n)
numeral_by true b v n e = cc
numeral_by false true v n e = (refl, refl, cc)
numeral_by false false v n e = cc

one_zero : (ds : List ℕ) → 0 < length ds → needless_zero ds ≡ false → get_or ds 0 0 ≡ 48 → length ds ≡ 1
one_zero ds some e first = grind (arith, nat_tests)

numeral_back : (ds : List ℕ) (n : ℕ) → 0 < length ds → all_ascii_digits ds ≡ true → numeral ds ≡ Some n → (ds ≡ decimal n) × (n ≤ max_number)
numeral_back ds n some all e =
    let parts = numeral_by (needless_zero ds) (leb (read_on 0 ds) max_number) (read_on 0 ds) n e in
    let small = leb-true (read_on 0 ds) max_number parts.1 in
    (sym (decimal-digits_value own ds all some (one_zero ds some parts.0) (omega arith)) ∙ ap decimal parts.2, omega (arith, parts.2))

-- the number that a run wrote where one was taken
abbrev pub Wrote : Expected → Content → Run → State → Type 0
Wrote e c r t = (n : ℕ) × (r.bytes ≡ decimal n) × (n ≤ max_number) × (value_step e c n r.place ≡ Ok t)

word_not : (e : Expected) (c : Content) (w : List ℕ) (p : ℕ) (t : State) {X : Type 0} → takes_number e ≡ true → word_step e c w p ≡ Ok t → X
word_not KindWord c w p t k e = cc
word_not (Title section) c w p t k e = cc
word_not (Count section) c w p t k e = cc
word_not (Number section after) c w p t k e = cc
word_not (PinNumber after event first) c w p t k e = cc
word_not End c w p t k e = cc

read_inv : (e : Expected) (c : Content) (r : Run) (t : State) (o : Option ℕ) → 0 < length r.bytes → all_ascii_digits r.bytes ≡ true → numeral r.bytes ≡ o → read_step e c r.place o ≡ Ok t → Wrote e c r t
read_inv e c r t None some all q k = cc
read_inv e c r t (Some n) some all q k = let back = numeral_back r.bytes n some all q in (n, back.0, back.1, k)

digits_inv : (e : Expected) (c : Content) (r : Run) (t : State) (b : Bool) → takes_number e ≡ b → b ≡ true → 0 < length r.bytes → all_ascii_digits r.bytes ≡ true → cond b (read_step e c r.place (numeral r.bytes)) (Err (finding 3 r.place)) ≡ Ok t → Wrote e c r t
digits_inv e c r t true q k some all ok = read_inv e c r t (numeral r.bytes) some all refl ok
digits_inv e c r t false q k some all ok = cc

number_inv_by : (e : Expected) (c : Content) (r : Run) (t : State) (x : Result Sort ℕ) → sort r ≡ x → 0 < length r.bytes → takes_number e ≡ true → sort_step (state e c) r x ≡ Ok t → Wrote e c r t
number_inv_by e c r t (Ok Letter) q some k ok = word_not e c r.bytes r.place t k ok
number_inv_by e c r t (Ok Digit) q some k ok = digits_inv e c r t (takes_number e) refl k some (sort_digits r q) ok
number_inv_by e c r t (Err p) q some k ok = cc

pub number_inv : (e : Expected) (c : Content) (r : Run) (t : State) → 0 < length r.bytes → takes_number e ≡ true → step (state e c) r ≡ Ok t → Wrote e c r t
number_inv e c r t some k ok = number_inv_by e c r t (sort r) refl some k ok

-- the title of a section
title_inv_by : (section : Section) (c : Content) (r : Run) (t : State) (x : Result Sort ℕ) → sort_step (state (Title section) c) r x ≡ Ok t → (r.bytes ≡ title_word section) × (state (Count section) c ≡ t)
title_inv_by section c r t (Ok Letter) ok =
    let both = ok_if (bytes_eq r.bytes (title_word section)) (state (Count section) c) t (finding 3 r.place) ok in
    ((bytes_eq-Decides r.bytes (title_word section)).0 both.0, both.1)
title_inv_by section c r t (Ok Digit) ok = cc
title_inv_by section c r t (Err p) ok = cc

pub title_inv : (section : Section) (c : Content) (r : Run) (t : State) → step (state (Title section) c) r ≡ Ok t → (r.bytes ≡ title_word section) × (state (Count section) c ≡ t)
title_inv section c r t ok = title_inv_by section c r t (sort r) ok

-- the word of a kind
named_by : (w : List ℕ) (x y z : Bool) (k : Kind) → bytes_eq w (codes "mismatch") ≡ x → bytes_eq w (codes "difference") ≡ y → bytes_eq w (codes "mixed") ≡ z → cond x (Some (Mismatch 0)) (cond y (Some (Difference 0 0)) (cond z (Some (Mixed 0 0 0)) None)) ≡ Some k → (w ≡ kind_word k) × (empty_kind k ≡ k)
named_by w true y z k a b c e =
    let same : Mismatch 0 ≡ k = cc in
    subst (λ (q : Kind). (w ≡ kind_word q) × (empty_kind q ≡ q)) same ((bytes_eq-Decides w (codes "mismatch")).0 a, refl)
named_by w false true z k a b c e =
    let same : Difference 0 0 ≡ k = cc in
    subst (λ (q : Kind). (w ≡ kind_word q) × (empty_kind q ≡ q)) same ((bytes_eq-Decides w (codes "difference")).0 b, refl)
named_by w false false true k a b c e =
    let same : Mixed 0 0 0 ≡ k = cc in
    subst (λ (q : Kind). (w ≡ kind_word q) × (empty_kind q ≡ q)) same ((bytes_eq-Decides w (codes "mixed")).0 c, refl)
named_by w false false false k a b c e = cc

-- the kind that a run named
abbrev pub Named : Content → Run → State → Type 0
Named c r t = (k : Kind) × (r.bytes ≡ kind_word k) × (empty_kind k ≡ k) × (state (Title Size) (with_kind c k) ≡ t)

kind_inv_by : (c : Content) (r : Run) (t : State) (o : Option Kind) → kind_named r.bytes ≡ o → kind_step c r.place o ≡ Ok t → Named c r t
kind_inv_by c r t None q ok = cc
kind_inv_by c r t (Some k) q ok =
    let both = named_by r.bytes _ _ _ k refl refl refl q in
    (k, both.0, both.1, cc)

kind_inv_sort : (c : Content) (r : Run) (t : State) (x : Result Sort ℕ) → sort_step (state KindWord c) r x ≡ Ok t → Named c r t
kind_inv_sort c r t (Ok Letter) ok = kind_inv_by c r t (kind_named r.bytes) refl ok
kind_inv_sort c r t (Ok Digit) ok = cc
kind_inv_sort c r t (Err p) ok = cc

pub kind_inv : (c : Content) (r : Run) (t : State) → step (state KindWord c) r ≡ Ok t → Named c r t
kind_inv c r t ok = kind_inv_sort c r t (sort r) ok

-- the first run of a walk that goes on
abbrev pub Solid : List Run → Type 0
Solid rs = AllByRecursion (λ (r : Run). 0 < length r.bytes) rs

abbrev pub Went : State → List Run → State → Type 0
Went s rs u = (r : Run) × (rest : List Run) × (t : State) × (rs ≡ r ∷ rest) × (0 < length r.bytes) × Solid rest × (step s r ≡ Ok t) × (walk t rest ≡ Ok u)

went_by : (s : State) (r : Run) (rs : List Run) (u : State) (a : Result State Finding) → step s r ≡ a → (0 < length r.bytes) × Solid rs → by_answer a (λ t. walk t rs) (λ f. Err f) ≡ Ok u → Went s (r ∷ rs) u
went_by s r rs u (Ok t) q a ok = (r, rs, t, refl, a.0, a.1, q, ok)
went_by s r rs u (Err f) q a ok = cc

pub went : (s : State) (rs : List Run) (j : Content) → (s.expected ≡ End → ⊥) → Solid rs → walk s rs ≡ Ok (state End j) → Went s rs (state End j)
went s [] j more a ok = let last : s ≡ state End j = cc in absurd (more (ap (λ (x : State). x.expected) last))
went s (r ∷ rs) j more a ok = went_by s r rs (state End j) (step s r) refl a ok
