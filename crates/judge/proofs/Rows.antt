-- Lists gone over place by place, and the nearest number found, as loops do it: one place more.
use Rattle.std.proofs.Common.{◌≡◌, ℕ, suc, ◌+◌, ◌-◌, ◌<◌, ◌≤◌, Bool, true, false, cond, MatchOption, List, length, get_or, set, Some, None, Option, sym, refl, ap, ◌∙◌, subst, ⊎_elim, arith}
use Rattle.std.proofs.lemmas.List.{get_or-set_same, get_or-set_other}
use Rattle.std.proofs.lemmas.Bool.{cases_eq, false≢true}
use Rattle.costs.specs.Kind.{Kind, Laws, AtMost}
use Rattle.tables.specs.Table.{Within}
use Rattle.tables.specs.declared.grade.Grade.{Grade}
use Rattle.tables.specs.declared.grade.Grade.TheVariants.{Closed, Open}
use Rattle.judge.specs.Search.{relax, better}
use Rattle.judge.specs.declared.settling.Reach.{Reach}
use Rattle.judge.specs.declared.settling.Reach.TheVariants.{Unseen, Reached, Scanned}
use Rattle.judge.specs.Rows.{listed, or_none, path_by, shorter, gone_over, found_by, NoneLeft, NearestPlace, Preferred}
use Rattle.judge.specs.Settling.{is_scanned, finder_of, scanned_in, finder_in, path_in}
use Rattle.costs.proofs.Sums.{at_most_itself}
use Rattle.judge.proofs.Puts.{none_some}

-- what a list says of the number at place j
pub listed_suc : {X : Type 0} (xs : List X) (d : X) (j : ℕ) → listed xs d (suc j) ≡ get_or xs j d
listed_suc xs d j = let e : suc j - 1 ≡ j = omega arith in ap (λ (z : ℕ). get_or xs z d) e

pub listed_here : {X : Type 0} (xs : List X) (d y : X) (j : ℕ) → j < length xs → listed (set xs j y) d (suc j) ≡ y
listed_here xs d y j h = listed_suc (set xs j y) d j ∙ get_or-set_same xs j y d h

pub listed_there : {X : Type 0} (xs : List X) (d y : X) (j c : ℕ) → 1 ≤ c → (c ≡ suc j → ⊥) → listed (set xs j y) d c ≡ listed xs d c
listed_there xs d y j c o n = get_or-set_other xs j (c - 1) y d (λ q. n (omega (arith, q)))

-- the numbers up to n have what the target says, the others what they had
abbrev pub Over : {X : Type 0} → ℕ → (ℕ → X) → (ℕ → X) → (ℕ → X) → Type 0
Over n new target old = (c : ℕ) → 1 ≤ c → (c ≤ n → new c ≡ target c) × (n < c → new c ≡ old c)

module _ {X : Type 0} (target old : ℕ → X) where
  -- the number at place n is written
  pub over_set : (n : ℕ) (new new₂ : ℕ → X) → Over n new target old → ((c : ℕ) → 1 ≤ c → (c ≡ suc n → ⊥) → new₂ c ≡ new c) → new₂ (suc n) ≡ target (suc n) → Over (n + 1) new₂ target old
  over_set n new new₂ f same here c o =
      ⊎_elim (λ (q : c ≡ suc n). ((λ h. subst (λ (z : ℕ). new₂ z ≡ target z) (sym q) here), (λ h. absurd (omega arith))))
      (λ (q : c ≡ suc n → ⊥). ((λ h. same c o q ∙ (f c o).0 (omega arith)), (λ h. same c o q ∙ (f c o).1 (omega arith)))) (cases_eq c (suc n))

  -- the number at place n keeps what it had
  pub over_keep : (n : ℕ) (new : ℕ → X) → Over n new target old → old (suc n) ≡ target (suc n) → Over (n + 1) new target old
  over_keep n new f e = over_set n new new f (λ c o q. refl) ((f (suc n) (omega arith)).1 (omega arith) ∙ e)

-- a path that is not less changes nothing
pub shorter_none : {C : Type 0} (k : Kind C) (o : Option C) (y : Grade C) (l : C) → None ≡ shorter k o y l → (relax k o y l ≡ o) × (better k o y l ≡ false)
shorter_none k o Closed l e = (refl, refl)
shorter_none {C} k None (Open x) l e = let z : ◌≡◌ {A = ℕ} 0 1 = cc in absurd (omega arith)
shorter_none {C} k (Some q) (Open x) l e = go (k.at_most q (k.plus l x)) refl e
  where
    go : (b : Bool) → k.at_most q (k.plus l x) ≡ b → None ≡ cond b None (Some (k.plus l x)) → (relax k (Some q) (Open x) l ≡ Some q) × (better k (Some q) (Open x) l ≡ false)
    go true t m = (simp t, simp t)
    go false t m = let z : ◌≡◌ {A = ℕ} 0 1 = cc in absurd (omega arith)

-- a path that is less is taken
pub shorter_some : {C : Type 0} (k : Kind C) (o : Option C) (y : Grade C) (l p : C) → Some p ≡ shorter k o y l → (relax k o y l ≡ Some p) × (better k o y l ≡ true)
shorter_some k o Closed l p e = let z : ◌≡◌ {A = ℕ} 0 1 = cc in absurd (omega arith)
shorter_some {C} k None (Open x) l p e = (sym e, refl)
shorter_some {C} k (Some q) (Open x) l p e = go (k.at_most q (k.plus l x)) refl e
  where
    go : (b : Bool) → k.at_most q (k.plus l x) ≡ b → Some p ≡ cond b None (Some (k.plus l x)) → (relax k (Some q) (Open x) l ≡ Some p) × (better k (Some q) (Open x) l ≡ true)
    go true t m = let z : ◌≡◌ {A = ℕ} 0 1 = cc in absurd (omega arith)
    go false t m = (simp t (sym m), simp t)

-- what is known of a number, where it is not that it was scanned
pub not_scanned : (x : Reach) → ((i : ℕ) → x ≡ Scanned i → ⊥) → is_scanned x ≡ false
not_scanned Unseen f = refl
not_scanned (Reached i) f = refl
not_scanned (Scanned i) f = absurd (f i refl)

-- a number that is not reached, or scanned, is none to go on with
pub not_reached : {C : Type 0} (x : Reach) (p q : C) → ((i : ℕ) → x ≡ Reached i → ⊥) → is_scanned x ≡ false → path_by (finder_of x) p ≡ Some q → ⊥
not_reached Unseen p q f e m = none_some q m
not_reached (Reached i) p q f e m = f i refl
not_reached (Scanned i) p q f e m = false≢true (sym e)

-- a number reached over event i: its path and its event are set, no other number changes, and what is scanned stays
module _ (reached : List Reach) (j i : ℕ) where
  pub path_here : {C : Type 0} (k : Kind C) (paths : List C) (p : C) → j < length reached → j < length paths → path_in k (set reached j (Reached i)) (set paths j p) (suc j) ≡ Some p
  path_here k paths p h l =
      ap (λ x. path_by (finder_of x) (listed (set paths j p) k.zero (suc j))) (listed_here reached Unseen (Reached i) j h) ∙ ap (λ x. Some x) (listed_here paths k.zero p j l)

  pub path_there : {C : Type 0} (k : Kind C) (paths : List C) (p : C) (c : ℕ) → 1 ≤ c → (c ≡ suc j → ⊥) → path_in k (set reached j (Reached i)) (set paths j p) c ≡ path_in k reached paths c
  path_there k paths p c o n =
      ap (λ x. path_by (finder_of x) (listed (set paths j p) k.zero c)) (listed_there reached Unseen (Reached i) j c o n)
      ∙ ap (path_by (finder_of (listed reached Unseen c))) (listed_there paths k.zero p j c o n)

  pub finder_here : j < length reached → finder_in (set reached j (Reached i)) (suc j) ≡ i
  finder_here h = ap (λ x. or_none (finder_of x)) (listed_here reached Unseen (Reached i) j h)

  pub finder_there : (c : ℕ) → 1 ≤ c → (c ≡ suc j → ⊥) → finder_in (set reached j (Reached i)) c ≡ finder_in reached c
  finder_there c o n = ap (λ x. or_none (finder_of x)) (listed_there reached Unseen (Reached i) j c o n)

  pub scanned_still : j < length reached → scanned_in reached (suc j) ≡ false → (c : ℕ) → 1 ≤ c → scanned_in (set reached j (Reached i)) c ≡ scanned_in reached c
  scanned_still h e c o =
      ⊎_elim (λ (q : c ≡ suc j). ap (scanned_in (set reached j (Reached i))) q ∙ ap is_scanned (listed_here reached Unseen (Reached i) j h) ∙ sym e ∙ ap (scanned_in reached) (sym q))
      (λ (q : c ≡ suc j → ⊥). ap is_scanned (listed_there reached Unseen (Reached i) j c o q)) (cases_eq c (suc j))

-- a row gone over up to place j: one place more
module _ {C : Type 0} (k : Kind C) (g : ℕ → ℕ → Grade C) (i : ℕ) (l : C) (done : ℕ → Bool) (old : ℕ → Option C) (old-by : ℕ → ℕ) (j : ℕ) (path : ℕ → Option C) (by : ℕ → ℕ)
    (over : Over j path (gone_over k g i l done old) old) (over_by : Over j by (found_by k g i l done old old-by) old-by) where
  -- what the row has made of the paths and of who found them, n places on
  abbrev pub GoneTo : ℕ → (ℕ → Option C) → (ℕ → ℕ) → Type 0
  GoneTo n path₂ by₂ = Over n path₂ (gone_over k g i l done old) old × Over n by₂ (found_by k g i l done old old-by) old-by

  pub relax_done : done (suc j) ≡ true → GoneTo (j + 1) path by
  relax_done e = (
    over_keep (gone_over k g i l done old) old j path over (sym (ap (λ b. cond b (old (suc j)) (relax k (old (suc j)) (g i (suc j)) l)) e)),
    over_keep (found_by k g i l done old old-by) old-by j by over_by (sym (ap (λ b. cond b (old-by (suc j)) (cond (better k (old (suc j)) (g i (suc j)) l) i (old-by (suc j)))) e)),
  )

  module _ (e : done (suc j) ≡ false) (known : Option C) (known_is : known ≡ path (suc j)) (y : Grade C) (y_is : y ≡ g i (suc j)) where
    old-is : known ≡ old (suc j)
    old-is = known_is ∙ (over (suc j) (omega arith)).1 (omega arith)

    path-new : gone_over k g i l done old (suc j) ≡ relax k known y l
    path-new =
        ap (λ b. cond b (old (suc j)) (relax k (old (suc j)) (g i (suc j)) l)) e
        ∙ ap (λ o. relax k o (g i (suc j)) l) (sym old-is) ∙ ap (λ z. relax k known z l) (sym y_is)

    by-new : found_by k g i l done old old-by (suc j) ≡ cond (better k known y l) i (old-by (suc j))
    by-new =
        ap (λ b. cond b (old-by (suc j)) (cond (better k (old (suc j)) (g i (suc j)) l) i (old-by (suc j)))) e
        ∙ ap (λ o. cond (better k o (g i (suc j)) l) i (old-by (suc j))) (sym old-is) ∙ ap (λ z. cond (better k known z l) i (old-by (suc j))) (sym y_is)

    pub relax_none : None ≡ shorter k known y l → GoneTo (j + 1) path by
    relax_none m =
        let x = shorter_none k known y l m in (
          over_keep (gone_over k g i l done old) old j path over (sym (path-new ∙ x.0 ∙ old-is)),
          over_keep (found_by k g i l done old old-by) old-by j by over_by (sym (by-new ∙ ap (λ b. cond b i (old-by (suc j))) x.1)),
        )

    pub relax_some : (p : C) → Some p ≡ shorter k known y l → (path₂ : ℕ → Option C) (by₂ : ℕ → ℕ) → ((c : ℕ) → 1 ≤ c → (c ≡ suc j → ⊥) → path₂ c ≡ path c) → path₂ (suc j) ≡ Some p → ((c : ℕ) → 1 ≤ c → (c ≡ suc j → ⊥) → by₂ c ≡ by c) → by₂ (suc j) ≡ i → GoneTo (j + 1) path₂ by₂
    relax_some p m path₂ by₂ same here same_by here-by =
        let x = shorter_some k known y l p m in (
          over_set (gone_over k g i l done old) old j path path₂ over same (here ∙ sym (path-new ∙ x.0)),
          over_set (found_by k g i l done old old-by) old-by j by by₂ over_by same_by (here-by ∙ sym (by-new ∙ ap (λ b. cond b i (old-by (suc j))) x.1)),
        )

-- the best of the numbers up to n so far, as its place and its key
module _ {C : Type 0} (k : Kind C) (laws : Laws k) (done : ℕ → Bool) (path : ℕ → Option C) (v : ℕ → C) where
  abbrev pub Near : ℕ → Option (ℕ × C) → Type 0
  Near n None = NoneLeft n done path
  Near n (Some b) =
      (b.0 < n) × (done (suc b.0) ≡ false) × ((p : C) × (path (suc b.0) ≡ Some p) × (b.1 ≡ k.minus p (v (suc b.0))))
      × ((d : ℕ) → Within n d → done d ≡ false → (q : C) → path d ≡ Some q → AtMost k b.1 (k.minus q (v d)))

  -- the place of the best of all numbers is the nearest place
  pub near_place : (n s : ℕ) (o : Option (ℕ × C)) (j : Option ℕ) → n ≡ s → MatchOption o (j ≡ None) (λ b. j ≡ Some b.0) → Near n o → NearestPlace k s v done path j
  near_place n s None j end e f = subst (NearestPlace k s v done path) (sym e) (subst (λ (m : ℕ). NoneLeft m done path) end f)
  near_place n s (Some b) j end e f =
      subst (NearestPlace k s v done path) (sym e)
      (omega (arith, f.0), (f.2.0, (f.1, f.2.1, λ d w a q r. subst (λ y. AtMost k y (k.minus q (v d))) f.2.2 (f.3 d (w.0, omega (arith, w.1)) a q r))))

  -- the number at place n does not count
  pub near_skip : (n : ℕ) (o : Option (ℕ × C)) → (done (suc n) ≡ false → (q : C) → path (suc n) ≡ Some q → ⊥) → Near n o → Near (n + 1) o
  near_skip n None no-n f =
      λ d w e q r. ⊎_elim (λ (z : d ≡ suc n). no-n (ap done (sym z) ∙ e) q (ap path (sym z) ∙ r)) (λ (z : d ≡ suc n → ⊥). f d (w.0, omega (arith, w.1)) e q r) (cases_eq d (suc n))
  near_skip n (Some b) no-n f = (
    omega (arith, f.0),
    f.1,
    f.2,
    λ d w e q r. ⊎_elim (λ (z : d ≡ suc n). absurd (no-n (ap done (sym z) ∙ e) q (ap path (sym z) ∙ r))) (λ (z : d ≡ suc n → ⊥). f.3 d (w.0, omega (arith, w.1)) e q r) (cases_eq d (suc n)),
  )

  -- the key at place n
  at_n : (n : ℕ) (p a : C) → path (suc n) ≡ Some p → AtMost k a (k.minus p (v (suc n))) → (d : ℕ) (q : C) → d ≡ suc n → path d ≡ Some q → AtMost k a (k.minus q (v d))
  at_n n p a f le d q z r =
      let w : path (suc n) ≡ Some q = ap path (sym z) ∙ r in
      let same : p ≡ q = cc (f, w) in
      subst (λ (i : ℕ). AtMost k a (k.minus q (v i))) (sym z) (subst (λ y. AtMost k a (k.minus y (v (suc n)))) same le)

  -- the number at place n is not preferred: the best so far stays
  pub near_keep : (n : ℕ) (o : Option (ℕ × C)) (p : C) → path (suc n) ≡ Some p → Preferred k o (k.minus p (v (suc n))) false → Near n o → Near (n + 1) o
  near_keep n None p f le m = absurd (false≢true le)
  near_keep n (Some b) p f le m = (
    omega (arith, m.0),
    m.1,
    m.2,
    λ d w a q r. ⊎_elim (λ (z : d ≡ suc n). at_n n p b.1 f le d q z r) (λ (z : d ≡ suc n → ⊥). m.3 d (w.0, omega (arith, w.1)) a q r) (cases_eq d (suc n)),
  )

  -- it is preferred
  pub near_take : (n : ℕ) (o : Option (ℕ × C)) (p : C) → done (suc n) ≡ false → path (suc n) ≡ Some p → Preferred k o (k.minus p (v (suc n))) true → Near n o → Near (n + 1) (Some (n, k.minus p (v (suc n))))
  near_take n o p e f le m = (
    omega arith,
    e,
    (p, f, refl),
    λ d w a q r. ⊎_elim (λ (z : d ≡ suc n). at_n n p (k.minus p (v (suc n))) f (at_most_itself k laws (k.minus p (v (suc n)))) d q z r) (λ (z : d ≡ suc n → ⊥). before o le m d (w.0, omega (arith, w.1)) a q r) (cases_eq d (suc n)),
  )
    where
      before : (o : Option (ℕ × C)) → Preferred k o (k.minus p (v (suc n))) true → Near n o → (d : ℕ) → Within n d → done d ≡ false → (q : C) → path d ≡ Some q → AtMost k (k.minus p (v (suc n))) (k.minus q (v d))
      before None le m d w a q r = absurd (m d w a q r)
      before (Some b) le m d w a q r = laws.order_trans (k.minus p (v (suc n))) b.1 (k.minus q (v d)) le (m.3 d w a q r)
