-- The window after some events of a log, when it was empty before them.
use Rattle.std.proofs.Common.{◌≡◌, ℕ, ◌+◌, ◌-◌, ◌≤◌, Bool, true, false, cond, List, [], ◌∷◌, ◌++◌, length, take, drop, Some, None, sym, refl, ap, ◌∙◌, append_assoc, append-nil, arith, length-append, length-drop, drop-drop}
use lib.Seq.{drop-append-le}
use Rattle.std.specs.List.{AllByRecursion}
use Rattle.std.proofs.lemmas.List.{drop-take, length-take-le}
use Rattle.std.proofs.lemmas.Bool.{cond-true}
use Rattle.tables.specs.Table.{Table, within, last}
use Rattle.watch.specs.Ledger.{Ledger, after_feed}
use Rattle.watch.specs.Walking.{after_feeds, first_outside}
use Rattle.watch.proofs.Outcomes.{never}
use Rattle.report.specs.Windows.{at_window, window_at, Full}

-- only the last events of the first part can be among the last ones
last_append : {X : Type 0} (m : ℕ) (xs ys : List X) → last m (last m xs ++ ys) ≡ last m (xs ++ ys)
last_append m xs ys =
    let d = length xs - m in
    let front : drop d xs ++ ys ≡ drop d (xs ++ ys) = sym (drop-append-le d xs ys (omega arith)) in
    let short = length-drop d xs in
    let long = length-append (drop d xs) ys in
    let whole = length-append xs ys in
    let place : d + (length (drop d xs ++ ys) - m) ≡ length (xs ++ ys) - m = omega (arith, short, long, whole) in
    ap (drop (length (drop d xs ++ ys) - m)) front ∙ drop-drop (length (drop d xs ++ ys) - m) d (xs ++ ys) ∙ ap (λ (n : ℕ). drop n (xs ++ ys)) place

last_few : {X : Type 0} (m : ℕ) (xs : List X) → length xs ≤ m → last m xs ≡ xs
last_few m xs few = let none : length xs - m ≡ 0 = omega arith in ap (λ (n : ℕ). drop n xs) none

pub last_length : {X : Type 0} (m : ℕ) (xs : List X) → length (last m xs) ≡ length xs - (length xs - m)
last_length m xs = length-drop (length xs - m) xs

-- events of which none is outside
abbrev pub Inside : ℕ → List ℕ → Type 0
Inside s es = AllByRecursion (λ (e : ℕ). within s e ≡ true) es

pub inside_all : (s p : ℕ) (es : List ℕ) → first_outside s p es ≡ None → Inside s es
inside_all s p [] h = tt
inside_all s p (e ∷ es) h = go (within s e) refl (inside_all s (p + 1) es) h
  where
    go : (b : Bool) → within s e ≡ b → (first_outside s (p + 1) es ≡ None → Inside s es) → cond b (first_outside s (p + 1) es) (Some p) ≡ None → Inside s (e ∷ es)
    go true w rest h = (w, rest h)
    go false w rest h = never cc

module _ {C : Type 0} (l : Ledger C) where
  fed_one : (w : List ℕ) (e : ℕ) → within l.table.size e ≡ true → after_feed (at_window l w) e ≡ at_window l (last l.table.places (w ++ (e ∷ [])))
  fed_one w e inside =
      let put : Table C → Ledger C = λ t. record { table = t; pins = l.pins; bound = l.bound } in
      ap put (cond-true _ _ _ inside)

  feeds_window : (w es : List ℕ) → length w ≤ l.table.places → Inside l.table.size es → after_feeds (at_window l w) es ≡ at_window l (last l.table.places (w ++ es))
  feeds_window w [] few inside = ap (at_window l) (sym (ap (last l.table.places) (append-nil w) ∙ last_few l.table.places w few))
  feeds_window w (e ∷ es) few inside =
      let m = l.table.places in
      let next = last m (w ++ (e ∷ [])) in
      let short : length next ≤ m = omega (arith, last_length m (w ++ (e ∷ []))) in
      ap (λ (x : Ledger C). after_feeds x es) (fed_one w e inside.0)
      ∙ feeds_window next es short inside.1
      ∙ ap (at_window l) (last_append m (w ++ (e ∷ [])) es ∙ ap (last m) (append_assoc w (e ∷ []) es))

  -- the last events are the window
  pub fed_window : l.table.window ≡ [] → (es : List ℕ) → Inside l.table.size es → after_feeds l es ≡ at_window l (last l.table.places es)
  fed_window empty es inside = ap (λ (w : List ℕ). after_feeds (at_window l w) es) empty ∙ feeds_window [] es (omega arith) inside

-- the window that begins at a position
module _ (m : ℕ) (log : List ℕ) (p : ℕ) (full : Full m log p) where
  pub window_there : last m (take (p + m - 1) log) ≡ window_at m log p
  window_there =
      let from = full.0 in
      let to = full.1 in
      let long : length (take (p + m - 1) log) ≡ p + m - 1 = length-take-le (p + m - 1) log (omega arith) in
      let skip : length (take (p + m - 1) log) - m ≡ p - 1 = omega arith in
      let end : p + m - 1 ≡ p - 1 + m = omega arith in
      ap (λ (n : ℕ). drop n (take (p + m - 1) log)) skip ∙ ap (λ (n : ℕ). drop (p - 1) (take n log)) end ∙ drop-take (p - 1) m log

  pub window_full : length (window_at m log p) ≡ m
  window_full =
      let from = full.0 in
      let to = full.1 in
      length-take-le m (drop (p - 1) log) (omega (arith, length-drop (p - 1) log))
