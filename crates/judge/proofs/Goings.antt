-- The search as it goes on: how it begins, goes on by one number, gets stuck, or ends on a free number.
use Rattle.std.proofs.Common.{◌≡◌, ℕ, suc, ◌<◌, ◌≤◌, Bool, true, false, cond, ◌&&◌, eqb, leb, ◌⊎◌, List, [], ◌∷◌, map, Some, None, Option, sym, refl, ap, ◌∙◌, inl, inr, ⊎_elim, arith}
use lib.ListN.{length-map}
use Rattle.std.proofs.lemmas.List.FromFn.{length-range_with_len}
use Rattle.std.proofs.lemmas.Bool.{both_ways, cases_Bool, eq-eqb, eqb-true, le-leb, leb-true, or_left, or_right, or_cases, and_from, and_parts}
use Rattle.costs.specs.Kind.{Kind, Laws, AtMost}
use Rattle.costs.specs.Lists.{In}
use Rattle.tables.specs.Table.{Within}
use Rattle.tables.specs.declared.grade.Grade.{Grade}
use Rattle.tables.specs.declared.grade.Grade.TheVariants.{Open}
use Rattle.judge.specs.Renumbering.{up_to}
use Rattle.judge.specs.Prices.{Bounded}
use Rattle.judge.specs.Marks.{is_marked, Violator}
use Rattle.judge.specs.Seating.{put, Joined, Seating}
use Rattle.judge.specs.Search.{relax, better, reached, repriced, raised}
use Rattle.judge.specs.Tree.{Nearest, Going}
use Rattle.judge.specs.Turning.{Turning}
use Rattle.costs.proofs.Choose.{pigeons}
use Rattle.judge.proofs.Pairs.{in_counting}
use Rattle.judge.proofs.Listing.{all_in, from_map}
use Rattle.judge.proofs.Crowds.{apart_map, all_map}
use Rattle.judge.proofs.Cells.{path_key}
use Rattle.judge.proofs.NewPrices.{under', stays_tight, becomes_tight, end_becomes_tight, free', small_u', small_v'}
use Rattle.judge.proofs.Scans.{scan}
use Rattle.judge.proofs.Ends.{start, too_few}
use Rattle.judge.proofs.Seats.{once, fresh}
use Rattle.judge.proofs.Trails.{start_trail, scan_trail}
use Rattle.judge.proofs.Marking.{violator_of}

module _ {C : Type 0} (k : Kind C) (laws : Laws k) (g : ℕ → ℕ → Grade C) (s : ℕ) (bounded : Bounded k g s) where
  -- event r alone is inside
  pub begins : (r : ℕ) → Within s r → (seat h : ℕ → ℕ) (u v : ℕ → C) → Seating k g s seat h u v → seat r ≡ 0 → Going k g s 0 r seat h v (λ c. false) (λ c. relax k None (g r c) k.zero) (λ c. r)
  begins r ri seat h u v seating z = record {
    u = u;
    inside = λ i. eqb i r;
    lead = λ i. k.zero;
    rank = λ c. 0;
    seen = [];
    within = ri;
    unseated = z;
    seating = seating;
    tree = start k laws g s seat h u v seating r ri z bounded;
    trail = start_trail k g s r ri seat h;
  }

  module _ (t r : ℕ) (seat h : ℕ → ℕ) (v : ℕ → C) (done : ℕ → Bool) (path : ℕ → Option C) (by : ℕ → ℕ) (go : Going k g s t r seat h v done path by) where
    -- the holders of the numbers done are events other than r: fewer numbers are done than there are
    pub fewer_done : t < s
    fewer_done =
        let seen-in : (c : ℕ) → In c go.seen → Within s c = λ c m. all_in (Within s) go.seen go.trail.all_within c m in
        let held : (c : ℕ) → In c go.seen → 1 ≤ h c = λ c m. (go.tree.done_held c (seen-in c m) (go.trail.seen_done c m)).0 in
        let crowd = pigeons (r ∷ map h go.seen) (up_to s) (
          (λ m. let x = from_map h r go.seen m in fresh k g s seat h go.u v go.seating r go.within go.unseated x.0 (seen-in x.0 x.2) (sym x.1)),
          apart_map h go.seen (λ x y p q e. once k g s seat h go.u v go.seating x y (seen-in x p) (seen-in y q) (held x p) e) go.trail.apart,
        ) (
          in_counting 1 s r go.within.0 (omega (arith, go.within.1)),
          all_map (λ i. In i (up_to s)) h go.seen (λ x p. in_counting 1 s (h x) (held x p) (omega (arith, go.seating.holder_within x (seen-in x p)))),
        ) in
        omega (arith, crowd, length-map go.seen h, go.trail.many, length-range_with_len 1 s)

    few-done : t ≤ s
    few-done = omega (arith, fewer_done)

    -- the pair of a number and its holder is open
    pub held_open : (j : ℕ) → Within s j → 1 ≤ h j → (y : C) × (g (h j) j ≡ Open y)
    held_open j jw o = let x = go.seating.tight j jw o in (x.0, x.1)

    -- the nearest number is held: it is done, and the row of its holder is gone over
    pub goes_on : s ≤ 64 → (j : ℕ) → Within s j → 1 ≤ h j → (p : C) → Nearest k s v done path j p → (y : C) → g (h j) j ≡ Open y → Going k g s (suc t) r seat h v (put done j true) (λ c. cond (put done j true c) (path c) (relax k (path c) (g (h j) c) (k.minus p y))) (λ c. cond (put done j true c) (by c) (cond (better k (path c) (g (h j) c) (k.minus p y)) (h j) (by c)))
    goes_on size j jw held p near y jy = record {
      u = go.u;
      inside = put go.inside (h j) true;
      lead = put go.lead (h j) (k.minus p y);
      rank = put go.rank j t;
      seen = j ∷ go.seen;
      within = go.within;
      unseated = go.unseated;
      seating = go.seating;
      tree = scan k laws g s bounded t r (omega (arith, few-done, size)) seat h go.u v go.inside done path go.lead go.seating go.tree go.within go.unseated j jw held near.0 p near.1 y jy near.2;
      trail = scan_trail k g s t r seat h go.u v go.inside done path go.lead go.seating go.tree j jw held near.0 p near.1 y by go.rank go.seen go.trail;
    }

    -- the events inside are those reached
    pub is_reached : (i : ℕ) → Within s i → reached r seat done i ≡ go.inside i
    is_reached i iw = one (cases_Bool (go.inside i)) (cases_Bool (reached r seat done i))
      where
        yes : go.inside i ≡ true → reached r seat done i ≡ true
        yes e = join (go.trail.upto i e).1
          where
            join : Joined seat r i → reached r seat done i ≡ true
            join (inl q) = or_left (eqb i r) (leb 1 (seat i) && done (seat i)) (eq-eqb i r q)
            join (inr m) =
                let hi = go.seating.seat_holder i iw m in
                or_right (eqb i r) (leb 1 (seat i) && done (seat i))
                (and_from (leb 1 (seat i)) (done (seat i)) (le-leb 1 (seat i) m)
                (go.tree.inside_done (seat i) (m, go.seating.seat_within i iw) (omega (arith, hi, iw)) (ap go.inside hi ∙ e)))

        back : reached r seat done i ≡ true → go.inside i ≡ true
        back e = join (or_cases (eqb i r) (leb 1 (seat i) && done (seat i)) e)
          where
            join : (eqb i r ≡ true) ⊎ ((leb 1 (seat i) && done (seat i)) ≡ true) → go.inside i ≡ true
            join (inl q) = ap go.inside (eqb-true i r q) ∙ go.tree.root
            join (inr q) =
                let b = and_parts (leb 1 (seat i)) (done (seat i)) q in
                let m : 1 ≤ seat i = leb-true 1 (seat i) b.0 in
                ap go.inside (sym (go.seating.seat_holder i iw m)) ∙ (go.tree.done_held (seat i) (m, go.seating.seat_within i iw) b.1).1

        one : (go.inside i ≡ true) ⊎ (go.inside i ≡ false) → (reached r seat done i ≡ true) ⊎ (reached r seat done i ≡ false) → reached r seat done i ≡ go.inside i
        one (inl e) f = yes e ∙ sym e
        one (inr e) (inl f) = absurd (both_ways (go.inside i) e (back f))
        one (inr e) (inr f) = f ∙ sym e

    -- no number is left to go on with: the events reached, marked, are too many
    pub stuck : ((d : ℕ) → Within s d → done d ≡ false → (p : C) → path d ≡ Some p → ⊥) → (marks : List ℕ) → ((i : ℕ) → Within s i → is_marked marks i ≡ reached r seat done i) → Violator g s marks
    stuck none marks same =
        violator_of g s go.inside marks (λ i iw. same i iw ∙ is_reached i iw)
        (too_few k laws g s seat h go.u v go.seating r go.within go.unseated t go.inside done path go.lead go.tree
        (λ d dw p f. ⊎_elim (λ (z : done d ≡ true). z) (λ (z : done d ≡ false). absurd (none d dw z p f)) (cases_Bool (done d))))

    -- the nearest number is free: with new prices, the way to it can be turned over
    module _ (size : s ≤ 64) (j : ℕ) (jw : Within s j) (jfree : h j ≡ 0) (e : C) (near : Nearest k s v done path j e) where
      few : t ≤ 64
      few = omega (arith, few-done, size)

      nearest : (d : ℕ) → Within s d → done d ≡ false → (q : C) → path d ≡ Some q → AtMost k e (k.minus q (v d))
      nearest d dw dd q f = path_key k laws (k.minus q (v d)) e (v j) (omega (arith, few, go.tree.small_path j jw e near.1)) (go.seating.free j jw jfree) (near.2 d dw dd q f)

      pub ends : Turning k g s t r seat seat h (repriced k done path e v) by j
      ends = record {
        h₀ = h;
        a = raised k go.inside go.lead e go.u;
        inside = go.inside;
        done = done;
        rank = go.rank;
        ways = record {
          found = λ c cw cd.
              (let d = go.tree.done_held c cw cd in
              let o = go.trail.by_in c cw d.2 d.3 in
              (o.0, o.1, (o.2, o.3, becomes_tight k laws g s bounded t r few seat h go.u v go.inside done path go.lead go.seating go.tree j jw jfree e near.1 nearest (by c) c o.0 o.1 cw cd d.2 o.2 d.3 o.3 o.4)));
          falls = go.trail.falls;
          holder = λ i iw m n.
              (let o : 1 ≤ seat i = ⊎_elim (λ (q : i ≡ r). absurd (n q)) (λ (q : 1 ≤ seat i). q) (go.trail.upto i m).1 in
              let sw : Within s (seat i) = (o, go.seating.seat_within i iw) in
              let hi = go.seating.seat_holder i iw o in
              (sw, go.tree.inside_done (seat i) sw (omega (arith, hi, iw)) (ap go.inside hi ∙ m), hi));
        };
        hole = record {
          within = jw;
          seat_within = go.seating.seat_within;
          holder_within = λ c cw n. go.seating.holder_within c cw;
          seat_holder = λ i iw o. (let hi = go.seating.seat_holder i iw o in ((λ q. omega (arith, ap h q, hi, jfree, iw)), hi));
          holder_seat = λ c cw n o. go.seating.holder_seat c cw o;
          fit = λ c cw n o. stays_tight k laws g s bounded t r few seat h go.u v go.inside done path go.lead go.seating go.tree j jw jfree e near.1 nearest c cw o;
          free = λ c cw n z. free' k laws g s bounded t r few seat h go.u v go.inside done path go.lead go.seating go.tree j jw jfree e near.1 nearest c cw z;
          next =
              (let o = go.trail.by_in j jw e near.1 in
              (o.0, o.1, (o.2, o.3, end_becomes_tight k laws g s bounded t r few seat h go.u v go.inside done path go.lead go.seating go.tree j jw jfree e near.1 nearest (by j) o.0 o.1 o.2 o.3 o.4)));
          kept = λ c cw cd lt. (refl, λ q. omega (arith, ap h q, jfree, (go.tree.done_held c cw cd).0));
          lower = λ d dw dd q. go.trail.ranked d dw dd;
          same_seated = λ i iw. ((λ o. o), (λ o. o));
        };
        unseated = go.unseated;
        under = under' k laws g s bounded t r few seat h go.u v go.inside done path go.lead go.seating go.tree j jw jfree e near.1 nearest;
        small_a = small_u' k laws g s bounded t r few seat h go.u v go.inside done path go.lead go.seating go.tree j jw jfree e near.1 nearest;
        small_w = small_v' k laws g s bounded t r few seat h go.u v go.inside done path go.lead go.seating go.tree j jw jfree e near.1 nearest;
      }
