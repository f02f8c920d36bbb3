-- The search and the turning over lists: place c - 1 is that of number c, or of event c.
use Rattle.std.proofs.Common.{◌≡◌, ℕ, zero, suc, ◌+◌, ◌-◌, ◌<◌, ◌≤◌, Bool, true, false, cond, ◌⊎◌, List, length, get_or, set, replicate, Some, None, Option, sym, refl, ap, ◌∙◌, subst, inl, inr, ⊎_elim, arith}
use Rattle.std.proofs.lemmas.List.{length-set, get_or-set_same, get_or-set_other}
use Rattle.std.proofs.lemmas.Bool.{both_ways, cases_eq, eq-eqb, ne_eqb}
use Rattle.costs.specs.Kind.{Kind, Laws}
use Rattle.tables.specs.Table.{Within}
use Rattle.tables.specs.declared.grade.Grade.{Grade}
use Rattle.tables.specs.declared.grade.Grade.TheVariants.{Closed, Open}
use Rattle.judge.specs.declared.settling.Seats.{Seats}
use Rattle.judge.specs.declared.settling.Reach.{Reach}
use Rattle.judge.specs.declared.settling.Reach.TheVariants.{Unseen, Reached, Scanned}
use Rattle.judge.specs.Prices.{Bounded}
use Rattle.judge.specs.Seating.{put, Seating, SeatsOneMore}
use Rattle.judge.specs.Search.{relax, better, reached, lowered, repriced}
use Rattle.judge.specs.Tree.{Nearest, Going}
use Rattle.judge.specs.Turning.{Turning}
use Rattle.judge.specs.Rows.{Agree, listed, or_none, listed_or_none, path_by, gone_over, found_by, NoneLeft, less_end}
use Rattle.judge.specs.Settling.{Solvable, Named, Seated, Relaxed, Searching, Found, seat_in, holder_in, is_scanned, finder_of, scanned_in, finder_in, path_in, fresh_seats, take_number, turned, WayBack}
use Rattle.judge.proofs.Puts.{put_here, put_there, none_some}
use Rattle.judge.proofs.Violators.{violators}
use Rattle.judge.proofs.Marking.{marks_of, marks_are}
use Rattle.judge.proofs.Seats.{nobody}
use Rattle.judge.proofs.Same.{seating_same, going_same, turning_same}
use Rattle.judge.proofs.Goings.{begins, fewer_done, goes_on, stuck, ends}
use Rattle.judge.proofs.Turnings.{turns, ends_seated, turning_numbers}
use Rattle.judge.proofs.Rows.{listed_suc, listed_here, listed_there}

-- number n set for i
pub listed_number_set : (s : ℕ) (xs : List (Option ℕ)) (i n : ℕ) → Within s i → s ≤ length xs → Agree s (listed_or_none (set xs (i - 1) (Some n))) (put (listed_or_none xs) i n)
listed_number_set s xs i n iw long c w =
    let e : suc (i - 1) ≡ i = omega (arith, iw) in
    ⊎_elim
    (λ (z : c ≡ i).
    ap (listed_or_none (set xs (i - 1) (Some n))) (z ∙ sym e) ∙ ap or_none (listed_here xs None (Some n) (i - 1) (omega (arith, iw, long)))
    ∙ sym (ap (put (listed_or_none xs) i n) z ∙ put_here (listed_or_none xs) i n))
    (λ (z : c ≡ i → ⊥). ap or_none (listed_there xs None (Some n) (i - 1) c w.0 (λ q. z (q ∙ e))) ∙ sym (put_there (listed_or_none xs) i n c z)) (cases_eq c i)

-- an event set as a holder
named_set : (xs : List (Option ℕ)) (j i : ℕ) → j < length xs → 1 ≤ i → Named xs → Named (set xs j (Some i))
named_set xs j i long o f n m e =
    ⊎_elim
    (λ (q : n ≡ j).
    let here : Some i ≡ Some m = sym (get_or-set_same xs j (Some i) None long) ∙ ap (λ (z : ℕ). get_or (set xs j (Some i)) z None) (sym q) ∙ e in
    let same : i ≡ m = cc in
    omega arith)
    (λ (q : n ≡ j → ⊥). f n m (sym (get_or-set_other xs j n (Some i) None q) ∙ e)) (cases_eq n j)

-- the holder of the number at place j
pub holder_at : {C : Type 0} (k : Kind C) (g : ℕ → ℕ → Grade C) (s : ℕ) (seats : Seats) (v : ℕ → C) → Seated k g s seats v → (j i : ℕ) → j < s → get_or seats.holders j None ≡ Some i → Within s i × (holder_in seats (suc j) ≡ i)
holder_at k g s seats v seated j i lt e =
    let is : holder_in seats (suc j) ≡ i = ap or_none (listed_suc seats.holders None j ∙ e) in
    ((seated.named j i e, omega (arith, is, seated.seating.holder_within (suc j) (omega arith))), is)

-- a list of one value
pub listed_replicate : {X : Type 0} (n : ℕ) (x : X) (j : ℕ) → get_or (replicate n x) j x ≡ x
listed_replicate zero x j = refl
listed_replicate (suc n) x zero = refl
listed_replicate (suc n) x (suc j) = listed_replicate n x j

-- what is known of the numbers before any search
abbrev pub unseen : List Reach
unseen = replicate 32 Unseen

-- the number at place j set to x, which is scanned and has the same finder
module _ (s : ℕ) (reached : List Reach) (j : ℕ) (x : Reach) (long : j < length reached) where
  pub scanned_set : is_scanned x ≡ true → Agree s (scanned_in (set reached j x)) (put (scanned_in reached) (suc j) true)
  scanned_set e c w =
      ⊎_elim (λ (z : c ≡ suc j). ap (scanned_in (set reached j x)) z ∙ ap is_scanned (listed_here reached Unseen x j long) ∙ e ∙ sym (ap (put (scanned_in reached) (suc j) true) z ∙ put_here (scanned_in reached) (suc j) true))
      (λ (z : c ≡ suc j → ⊥). ap is_scanned (listed_there reached Unseen x j c w.0 z) ∙ sym (put_there (scanned_in reached) (suc j) true c z)) (cases_eq c (suc j))

  pub finder_kept : finder_of x ≡ finder_of (listed reached Unseen (suc j)) → (c : ℕ) → Within s c → finder_of (listed (set reached j x) Unseen c) ≡ finder_of (listed reached Unseen c)
  finder_kept e c w =
      ⊎_elim (λ (z : c ≡ suc j). ap (λ (n : ℕ). finder_of (listed (set reached j x) Unseen n)) z ∙ ap finder_of (listed_here reached Unseen x j long) ∙ e ∙ ap (λ (n : ℕ). finder_of (listed reached Unseen n)) (sym z))
      (λ (z : c ≡ suc j → ⊥). ap finder_of (listed_there reached Unseen x j c w.0 z)) (cases_eq c (suc j))

-- a path that counts has the cost that stands in its place
pub path_cost : {C : Type 0} (o : Option ℕ) (x p : C) → path_by o x ≡ Some p → x ≡ p
path_cost None x p e = absurd (none_some p e)
path_cost (Some i) x p e = cc

-- a first path is better than none
first_better : {C : Type 0} (k : Kind C) (y : Grade C) (l q : C) → relax k None y l ≡ Some q → better k None y l ≡ true
first_better k Closed l q e = absurd (none_some q e)
first_better k (Open x) l q e = refl

module _ {C : Type 0} (k : Kind C) (laws : Laws k) (g : ℕ → ℕ → Grade C) (s : ℕ) (bounded : Bounded k g s) where
  -- nothing was known, and the row of event r was gone over
  pub starts : (r : ℕ) → Within s r → (seat h : ℕ → ℕ) (u v : ℕ → C) → Seating k g s seat h u v → seat r ≡ 0 → (l : C) → l ≡ k.zero → (done done₂ : ℕ → Bool) (path path₂ : ℕ → Option C) (by by₂ : ℕ → ℕ) → Agree s done (λ c. false) → Agree s path (λ c. None) → Agree s done₂ done → Agree s path₂ (gone_over k g r l done path) → Agree s by₂ (found_by k g r l done path by) → Going k g s 0 r seat h v done₂ path₂ by₂
  starts r ri seat h u v seating z l l-is done done₂ path path₂ by by₂ no-done no-path d p b =
      going_same k g s 0 r seat h v (λ c. false) done₂ (λ c. relax k None (g r c) k.zero) path₂ (λ c w. d c w ∙ no-done c w)
      (λ c w.
      p c w ∙ ap (λ y. gone_over k g r y done path c) l-is ∙ ap (λ x. cond x (path c) (relax k (path c) (g r c) k.zero)) (no-done c w)
      ∙ ap (λ o. relax k o (g r c) k.zero) (no-path c w))
      (λ c. r) by₂
      (λ c w q e.
      b c w ∙ ap (λ y. found_by k g r y done path by c) l-is ∙ ap (λ x. cond x (by c) (cond (better k (path c) (g r c) k.zero) r (by c))) (no-done c w)
      ∙ ap (λ o. cond (better k o (g r c) k.zero) r (by c)) (no-path c w)
      ∙ ap (λ x. cond x r (by c)) (first_better k (g r c) k.zero q e))
      (begins k laws g s bounded r ri seat h u v seating z)

  module _ (t r : ℕ) (seat h : ℕ → ℕ) (v : ℕ → C) (done : ℕ → Bool) (path : ℕ → Option C) (by : ℕ → ℕ) (go : Going k g s t r seat h v done path by) where
    -- some renumbering is allowed: a number is left to go on with
    pub never_stuck : Solvable k g s → NoneLeft s done path → ⊥
    never_stuck solvable none =
        both_ways _ (violators C g s (marks_of (reached r seat done) s)
        (stuck k laws g s bounded t r seat h v done path by go none (marks_of (reached r seat done) s) (marks_are (reached r seat done) s))
        solvable.numbers solvable.renumbers) solvable.is_allowed

    -- number j, the nearest, is held by i: it is done, and the row of i was gone over
    pub scans : s ≤ 64 → (j i : ℕ) → Within s j → h j ≡ i → 1 ≤ i → (p : C) → Nearest k s v done path j p → (y : C) → g i j ≡ Open y → (l : C) → l ≡ k.minus p y → (done₁ done₂ : ℕ → Bool) (path₂ : ℕ → Option C) (by₂ : ℕ → ℕ) → Agree s done₁ (put done j true) → Agree s done₂ done₁ → Agree s path₂ (gone_over k g i l done₁ path) → Agree s by₂ (found_by k g i l done₁ path by) → Going k g s (suc t) r seat h v done₂ path₂ by₂
    scans size j i jw i-is held p near y y-is l l-is done₁ done₂ path₂ by₂ d₁ d₂ q b =
        going_same k g s (suc t) r seat h v _ done₂ _ path₂ (λ c w. d₂ c w ∙ d₁ c w)
        (λ c w.
        q c w ∙ ap (λ z. gone_over k g i z done₁ path c) l-is ∙ ap (λ x. cond x (path c) (relax k (path c) (g i c) (k.minus p y))) (d₁ c w)
        ∙ ap (λ (z : ℕ). cond (put done j true c) (path c) (relax k (path c) (g z c) (k.minus p y))) (sym i-is))
        _ by₂
        (λ c w x e.
        b c w ∙ ap (λ z. found_by k g i z done₁ path by c) l-is ∙ ap (λ x. cond x (by c) (cond (better k (path c) (g i c) (k.minus p y)) i (by c))) (d₁ c w)
        ∙ ap (λ (z : ℕ). cond (put done j true c) (by c) (cond (better k (path c) (g z c) (k.minus p y)) z (by c))) (sym i-is))
        (goes_on k laws g s bounded t r seat h v done path by go size j jw (omega (arith, i-is, held)) p near y (ap (λ (z : ℕ). g z j) i-is ∙ y-is))

    -- number j, the nearest, is free, and the prices were set anew from the path costs
    pub sinks : s ≤ 64 → (j : ℕ) → Within s j → h j ≡ 0 → (p : C) → Nearest k s v done path j p → (costs w : ℕ → C) → ((c : ℕ) → Within s c → (q : C) → path c ≡ Some q → costs c ≡ q) → Agree s w (less_end k done costs p v) → Turning k g s t r seat seat h w by j
    sinks size j jw free p near costs w cost-is new =
        turning_same k g s t r seat seat seat h h (repriced k done path p v) w by j (λ c cw. refl) (λ c cw. refl)
        (λ c cw. new c cw ∙ price c cw (done c) refl)
        (ends k laws g s bounded t r seat h v done path by go size j jw free p near)
      where
        price : (c : ℕ) → Within s c → (b : Bool) → done c ≡ b → cond (done c) (k.minus (costs c) p) (v c) ≡ lowered k (done c) (path c) p (v c)
        price c cw true e =
            let o = go.tree.done_held c cw e in
            ap (λ b. cond b (k.minus (costs c) p) (v c)) e ∙ ap (λ x. k.minus x p) (cost-is c cw o.2 o.3)
            ∙ sym (ap (λ b. lowered k b (path c) p (v c)) e ∙ ap (λ x. lowered k true x p (v c)) o.3)
        price c cw false e = ap (λ b. cond b (k.minus (costs c) p) (v c)) e ∙ sym (ap (λ b. lowered k b (path c) p (v c)) e)

-- the same over lists: the number at place j, which event f found, is scanned
module _ {C : Type 0} (k : Kind C) (laws : Laws k) (g : ℕ → ℕ → Grade C) (s : ℕ) (bounded : Bounded k g s) (t r : ℕ) (seats : Seats) (v : ℕ → C) (reached : List Reach) (paths : List C) (go : Searching k g s t r seats v reached paths) (j i f : ℕ) (lt : j < s) (long : j < length reached) where
  pub scans_on : s ≤ 64 → Within s i → holder_in seats (suc j) ≡ i → (p : C) → Nearest k s v (scanned_in reached) (path_in k reached paths) (suc j) p → (y : C) → g i (suc j) ≡ Open y → (l : C) → l ≡ k.minus p y
      → get_or reached j Unseen ≡ Reached f → (reached₂ : List Reach) (paths₂ : List C) → Relaxed k g s i l (set reached j (Scanned f)) paths reached₂ paths₂ → Searching k g s (suc t) r seats v reached₂ paths₂
  scans_on size iw held p near y y-is l l-is f-is reached₂ paths₂ after =
      let kept = finder_kept s reached j (Scanned f) long (sym (ap finder_of (listed_suc reached Unseen j ∙ f-is))) in
      let done₁ = scanned_in (set reached j (Scanned f)) in
      scans k laws g s bounded t r (seat_in seats) (holder_in seats) v (scanned_in reached) (path_in k reached paths) (finder_in reached) go size (suc j) i (omega arith) held iw.0 p near y y-is l l-is
      done₁ (scanned_in reached₂) (path_in k reached₂ paths₂) (finder_in reached₂) (scanned_set s reached j (Scanned f) long refl) (λ c w. after.scanned c w.0)
      (λ c w. after.path c w ∙ ap (λ o. cond (done₁ c) (path_by o (listed paths k.zero c)) (relax k (path_by o (listed paths k.zero c)) (g i c) l)) (kept c w))
      (λ c w. after.finder c w ∙ ap (λ o. cond (done₁ c) (or_none o) (cond (better k (path_by o (listed paths k.zero c)) (g i c) l) i (or_none o))) (kept c w))

-- the way turned over
module _ {C : Type 0} (k : Kind C) (g : ℕ → ℕ → Grade C) (s r : ℕ) (seat₀ : ℕ → ℕ) (w : ℕ → C) (by : ℕ → ℕ) where
  -- the seats are in order at the prices w, and event r is seated too
  abbrev pub OneMore : Seats → Type 0
  OneMore seats = Seated k g s seats w × SeatsOneMore k g s seat₀ r (seat_in seats)

  module _ (seats : Seats) (b j : ℕ) (long_numbers : s ≤ length seats.numbers) (long_holders : s ≤ length seats.holders) (named : Named seats.holders) (x : Turning k g s b r seat₀ (seat_in seats) (holder_in seats) w by j) where
    nums : Within s j × Within s (by j)
    nums = turning_numbers k g s b r seat₀ (seat_in seats) (holder_in seats) w by j x

    set-seat : Agree s (seat_in (take_number seats (by j) j)) (put (seat_in seats) (by j) j)
    set-seat = listed_number_set s seats.numbers (by j) j nums.1 long_numbers

    set-holder : Agree s (holder_in (take_number seats (by j) j)) (put (holder_in seats) j (by j))
    set-holder = listed_number_set s seats.holders j (by j) nums.0 long_holders

    still-named : Named (take_number seats (by j) j).holders
    still-named = named_set seats.holders (j - 1) (by j) (omega (arith, nums.0, long_holders)) nums.1.0 named

    goes_back : (by j ≡ r → ⊥) → (b' : ℕ) × (b' < b) × Turning k g s b' r seat₀ (seat_in (take_number seats (by j) j)) (holder_in (take_number seats (by j) j)) w by (seat_in seats (by j))
    goes_back n =
        let o = turns k g s b r seat₀ (seat_in seats) (holder_in seats) w by j x n in
        (o.1, o.2, turning_same k g s o.1 r seat₀ (put (seat_in seats) (by j) j) (seat_in (take_number seats (by j) j)) (put (holder_in seats) j (by j)) (holder_in (take_number seats (by j) j)) w w by (seat_in seats (by j)) set-seat set-holder (λ c cw. refl) o.3)

    is-back : by j ≡ r → OneMore (take_number seats (by j) j)
    is-back e =
        let o = ends_seated k g s b r seat₀ (seat_in seats) (holder_in seats) w by j x e in (
          record {
            u = o.0;
            seating = seating_same k g s (put (seat_in seats) (by j) j) (seat_in (take_number seats (by j) j)) (put (holder_in seats) j (by j)) (holder_in (take_number seats (by j) j)) o.0 o.0 w w set-seat set-holder (λ i iw. refl) (λ c cw. refl) o.1;
            named = still-named;
            long_numbers = omega (arith, length-set seats.numbers (by j - 1) (Some j));
            long_holders = omega (arith, length-set seats.holders (j - 1) (Some (by j)));
          },
          λ i iw. ((λ m. subst (λ (z : ℕ). 1 ≤ z) (sym (set-seat i iw)) ((o.2 i iw).0 m)), (λ m. (o.2 i iw).1 (subst (λ (z : ℕ). 1 ≤ z) (set-seat i iw) m))),
        )

  -- with f turns to go, more than the rank that is left, the way back is gone to its end
  abbrev pub TurnsOver : ℕ → Type 0
  TurnsOver f = (b : ℕ) (seats : Seats) (j : ℕ) → b < f → s ≤ length seats.numbers → s ≤ length seats.holders → Named seats.holders → Turning k g s b r seat₀ (seat_in seats) (holder_in seats) w by j → WayBack f s by r seats j × OneMore (turned f by r seats j)

  one_turn : (f : ℕ) → TurnsOver f → TurnsOver (suc f)
  one_turn f rec b seats j lt ln lh named x = go (cases_eq (by j) r)
    where
      both : Within s j × Within s (by j)
      both = nums seats b j ln lh named x

      go : (by j ≡ r) ⊎ (by j ≡ r → ⊥) → WayBack (suc f) s by r seats j × OneMore (turned (suc f) by r seats j)
      go (inl e) = (
        (both.0, both.1, λ n. absurd (n e)),
        subst OneMore (sym (ap (λ t. cond t (take_number seats (by j) j) (turned f by r (take_number seats (by j) j) (seat_in seats (by j)))) (eq-eqb (by j) r e))) (is-back seats b j ln lh named x e),
      )
      go (inr n) =
          let o = goes_back seats b j ln lh named x n in
          let on = rec o.0 (take_number seats (by j) j) (seat_in seats (by j)) (omega (arith, o.1)) (omega (arith, length-set seats.numbers (by j - 1) (Some j))) (omega (arith, length-set seats.holders (j - 1) (Some (by j)))) (still-named seats b j ln lh named x) o.2 in (
            (both.0, both.1, λ m. on.0),
            subst OneMore (sym (ap (λ t. cond t (take_number seats (by j) j) (turned f by r (take_number seats (by j) j) (seat_in seats (by j)))) (ne_eqb (by j) r n))) on.1,
          )

  pub turns_over : (f : ℕ) → TurnsOver f
  turns_over zero b seats j lt ln lh named x = absurd (omega arith)
  turns_over (suc f) b seats j lt ln lh named x = one_turn f (turns_over f) b seats j lt ln lh named x

-- a search found a free number, and the prices were set anew: the way to it can be turned over, and then all is in order
pub augments : {C : Type 0} (k : Kind C) (laws : Laws k) (g : ℕ → ℕ → Grade C) (s r : ℕ) (bounded : Bounded k g s) → s ≤ 64 → (seats : Seats) (v : ℕ → C) (reached : List Reach) (paths : List C) (j : ℕ) → Found k g s r seats v reached paths j → Seated k g s seats v → (e : C) → e ≡ get_or paths j k.zero → (w : ℕ → C) → Agree s w (less_end k (scanned_in reached) (listed paths k.zero) e v) → WayBack s s (finder_in reached) r seats (suc j) × OneMore k g s r (seat_in seats) w (finder_in reached) (turned s (finder_in reached) r seats (suc j))
augments {C} k laws g s r bounded size seats v reached paths j found seated e e-is w new =
    turns_over k g s r (seat_in seats) w (finder_in reached) s found.scans seats (suc j) (fewer_done k laws g s bounded found.scans r (seat_in seats) (holder_in seats) v (scanned_in reached) (path_in k reached paths) (finder_in reached) found.searching) seated.long_numbers seated.long_holders seated.named
    (sinks k laws g s bounded found.scans r (seat_in seats) (holder_in seats) v (scanned_in reached) (path_in k reached paths) (finder_in reached) found.searching size (suc j) (omega (arith, found.below)) found.free found.cost found.nearest
    (listed paths k.zero) w cost-is (λ c cw. new c cw ∙ ap (λ z. less_end k (scanned_in reached) (listed paths k.zero) z v c) end_is))
  where
    cost-is : (c : ℕ) → Within s c → (q : C) → path_in k reached paths c ≡ Some q → listed paths k.zero c ≡ q
    cost-is c cw q m = path_cost (finder_of (listed reached Unseen c)) (listed paths k.zero c) q m

    end_is : e ≡ found.cost
    end_is = e-is ∙ sym (listed_suc paths k.zero j) ∙ cost-is (suc j) (omega (arith, found.below)) found.cost found.nearest.1

pub nobody_seated : {C : Type 0} (k : Kind C) (laws : Laws k) (g : ℕ → ℕ → Grade C) (s : ℕ) → s ≤ 32 → (v : ℕ → C) → Agree s v (λ c. k.zero) → Seated k g s fresh_seats v
nobody_seated k laws g s small v zero_is = record {
  u = λ i. k.zero;
  seating = seating_same k g s (λ i. 0) (seat_in fresh_seats) (λ c. 0) (holder_in fresh_seats) (λ i. k.zero) (λ i. k.zero) (λ c. k.zero) v (λ i iw. none-at i) (λ c cw. none-at c) (λ i iw. refl) zero_is (nobody k laws g s (λ i. k.zero));
  named = λ j i e. absurd (none_some i (sym (listed_replicate 32 None j) ∙ e));
  long_numbers = small;
  long_holders = small;
}
  where
    none-at : (c : ℕ) → listed_or_none (replicate 32 None) c ≡ 0
    none-at c = ap or_none (listed_replicate 32 None (c - 1))

-- of the events 1 to s those up to n are seated
abbrev pub SeatedUpTo : ℕ → ℕ → (ℕ → ℕ) → Type 0
SeatedUpTo s n seat = (i : ℕ) → Within s i → (i ≤ n → 1 ≤ seat i) × (n < i → seat i ≡ 0)

pub seated_none : (s : ℕ) → SeatedUpTo s 0 (seat_in fresh_seats)
seated_none s i iw = ((λ h. absurd (omega (arith, iw))), (λ h. ap or_none (listed_replicate 32 None (i - 1))))

pub seated_more : {C : Type 0} (k : Kind C) (g : ℕ → ℕ → Grade C) (s n : ℕ) (seat seat₂ : ℕ → ℕ) → SeatedUpTo s n seat → SeatsOneMore k g s seat (n + 1) seat₂ → SeatedUpTo s (n + 1) seat₂
seated_more k g s n seat seat₂ f more i iw = (
  (λ h. (more i iw).0 (⊎_elim (λ (q : i ≡ n + 1). inl q) (λ (q : i ≡ n + 1 → ⊥). inr ((f i iw).0 (omega arith))) (cases_eq i (n + 1)))),
  (λ h.
      ⊎_elim (λ (q : seat₂ i ≡ 0). q)
      (λ (q : seat₂ i ≡ 0 → ⊥).
      absurd (⊎_elim {C = ⊥} (λ (z : i ≡ n + 1). omega arith) (λ (z : 1 ≤ seat i). omega (arith, z, (f i iw).1 (omega arith))) ((more i iw).1 (omega arith))))
      (cases_eq (seat₂ i) 0)),
)
