-- Texts that are one value longer.
use Rattle.std.proofs.Common.{◌≡◌, ◌≢◌, ℕ, zero, suc, ◌+◌, ◌-◌, ◌<◌, ◌≤◌, ◌==◌, false, List, [], ◌∷◌, ◌++◌, length, take, drop, get_or, refl, sym, ap, ◌∙◌, arith, append_assoc, append-nil, codes}
use Rattle.std.specs.List.{range_with_len, flat_map}
use Rattle.std.specs.Fmt.{decimal, signed_decimal, HasWritten}
use Rattle.std.specs.declared.fmt.Formatter.{Formatter}
use Rattle.std.proofs.Output.{has_written_append, has_written_of_eq}
use Rattle.std.proofs.lemmas.List.{flat_map_more, take_more, drop_more}
use Rattle.std.proofs.lemmas.Grind.{common_steps}
use Rattle.std.proofs.lemmas.Bool.Decides.{nat_tests}
use Rattle.costs.specs.Plain.{plain_plus}
use Rattle.costs.specs.declared.plain.Plain.{Plain}
use Rattle.tables.specs.declared.grade.Grade.{Grade}
use Rattle.tables.specs.declared.grade.Grade.TheVariants.{Closed, Open}
use Rattle.judge.specs.Renumbering.{pairs_from}
use Rattle.shown.specs.Text.{mark_text, marked_text, priced_text}

-- a mark more at the end of a list
marked_end : (e : ℕ) (ms : List ℕ) (m k : ℕ) → e + length ms ≡ k → marked_text e (ms ++ m ∷ []) ≡ marked_text e ms ++ mark_text k m
marked_end e [] m k at = let here : e ≡ k = omega (arith, at) in append-nil (mark_text e m) ∙ ap (λ n. mark_text n m) here
marked_end e (n ∷ ms) m k at =
    ap (λ l. mark_text e n ++ l) (marked_end (e + 1) ms m k (omega (arith, at)))
    ∙ sym (append_assoc (mark_text e n) (marked_text (e + 1) ms) (mark_text k m))

-- the text of the marks up to place i
marked_more : (ms : List ℕ) (i : ℕ) → i < length ms → marked_text 1 (take i ms) ++ mark_text (i + 1) (get_or ms i 0) ≡ marked_text 1 (take (i + 1) ms)
marked_more ms i lt =
    let long : 1 + length (take i ms) ≡ i + 1 = grind (arith, common_steps) in
    rw (take_more ms i 0 lt) (sym (marked_end 1 (take i ms) (get_or ms i 0) (i + 1) long))

-- the same where place i is marked, and where it isn't
pub marked_one : (ms : List ℕ) (i : ℕ) → i < length ms → get_or ms i 0 ≡ 1 → marked_text 1 (take i ms) ++ (codes " " ++ decimal (i + 1)) ≡ marked_text 1 (take (i + 1) ms)
marked_one ms i lt one = rw one at (marked_more ms i lt)

pub marked_none : (ms : List ℕ) (i : ℕ) → i < length ms → get_or ms i 0 ≢ 1 → marked_text 1 (take i ms) ≡ marked_text 1 (take (i + 1) ms)
marked_none ms i lt other =
    let no : (get_or ms i 0 == 1) ≡ false = grind (arith, nat_tests) in
    sym (append-nil (marked_text 1 (take i ms))) ∙ rw no at (marked_more ms i lt)

-- a number more at the end of a range
range_end : (a k j : ℕ) → a + k ≡ j → range_with_len a (suc k) ≡ range_with_len a k ++ j ∷ []
range_end a zero j at = let here : a ≡ j = omega (arith, at) in ap (λ n. n ∷ []) here
range_end a (suc k) j at = ap (λ l. a ∷ l) (range_end (a + 1) k j (omega (arith, at)))

-- the texts of the numbers 1 to n
numbers_more : (text : ℕ → List ℕ) (n : ℕ) → 1 ≤ n → flat_map text (range_with_len 1 (n - 1)) ++ text n ≡ flat_map text (range_with_len 1 (n + 1 - 1))
numbers_more text n from =
    let on : suc (n - 1) ≡ n + 1 - 1 = omega (arith, from) in
    flat_map_more text [] (range_with_len 1 (n - 1)) n
    ∙ ap (flat_map text) (sym (range_end 1 (n - 1) n (omega (arith, from))))
    ∙ ap (λ k. flat_map text (range_with_len 1 k)) on

-- they are written up to n - 1, and then that of n
pub written_more : {W : Type 0} (took : W → List ℕ → W → Type 0) (f g h : Formatter W) (text : ℕ → List ℕ) (n : ℕ) → 1 ≤ n
    → HasWritten took f (flat_map text (range_with_len 1 (n - 1))) g → HasWritten took g (text n) h → HasWritten took f (flat_map text (range_with_len 1 (n + 1 - 1))) h
written_more took f g h text n from so_far next =
    has_written_of_eq took f _ _ h (numbers_more text n from) (has_written_append took f _ g _ h so_far next)

-- a head is written, and then all of them
pub written_all : {W : Type 0} (took : W → List ℕ → W → Type 0) (e f g : Formatter W) (head : List ℕ) (text : ℕ → List ℕ) (m size : ℕ) → m ≡ size
    → HasWritten took e head f → HasWritten took f (flat_map text (range_with_len 1 m)) g → HasWritten took e (head ++ flat_map text (range_with_len 1 size)) g
written_all took e f g head text m size all one rest =
    has_written_of_eq took e _ _ g (ap (λ k. head ++ flat_map text (range_with_len 1 k)) all) (has_written_append took e _ f _ g one rest)

-- what pairs cost, where the next is closed, and where it is open
pub priced_closed : (grade : ℕ → ℕ → Grade Plain) (sum : Plain) (i : ℕ) (ns : List ℕ) → i < length ns → grade (i + 1) (get_or ns i 0) ≡ Closed
    → codes "event " ++ (decimal (i + 1) ++ (codes " as " ++ (decimal (get_or ns i 0) ++ codes ": closed"))) ≡ priced_text grade sum (pairs_from (i + 1) (drop i ns))
priced_closed grade sum i ns lt closed = rw (drop_more ns i 0 lt, closed) refl

regroup : (b d f rest : List ℕ) → codes "event " ++ (b ++ (codes " as " ++ (d ++ (codes ": " ++ (f ++ (codes "\n" ++ rest)))))) ≡ (codes "event " ++ (b ++ (codes " as " ++ (d ++ (codes ": " ++ (f ++ codes "\n")))))) ++ rest
regroup b d f rest = rw (append_assoc b, append_assoc d, append_assoc f) refl

pub priced_open : (grade : ℕ → ℕ → Grade Plain) (sum c : Plain) (i : ℕ) (ns : List ℕ) → i < length ns → grade (i + 1) (get_or ns i 0) ≡ Open c
    → priced_text grade sum (pairs_from (i + 1) (drop i ns))
    ≡ (codes "event " ++ (decimal (i + 1) ++ (codes " as " ++ (decimal (get_or ns i 0) ++ (codes ": " ++ (signed_decimal c.value ++ codes "\n")))))) ++ priced_text grade (plain_plus sum c) (pairs_from (i + 1 + 1) (drop (i + 1) ns))
priced_open grade sum c i ns lt opened = rw (drop_more ns i 0 lt, opened) (regroup (decimal (i + 1)) (decimal (get_or ns i 0)) (signed_decimal c.value) (priced_text grade (plain_plus sum c) (pairs_from (i + 1 + 1) (drop (i + 1) ns))))
