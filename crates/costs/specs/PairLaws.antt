-- The pair of two cost kinds keeps the laws, since its parts do.
use Rattle.std.specs.Prelude.{◌≡◌, ℕ, ◌+◌, ◌<◌, ◌≤◌, Bool, true, false, cond, T, ◌⊎◌, nat_le, refl}
use Rattle.std.proofs.Common.{sym, ◌∙◌, ap, inl, inr, arith, leb→le, le→leb}
use Rattle.std.proofs.Math.Logic.{⊎_elim}
use Rattle.costs.specs.Kind.{Kind, Laws, Formed, AtMost, limit}
use Rattle.costs.specs.Pair.{both, pair_zero, pair_span, pair_plus, pair_minus, pair_kind}
use Rattle.costs.specs.declared.pair.Pair.{Pair}

pub pair_same : {A B : Type 0} (p q : Pair A B) → p.first ≡ q.first → p.second ≡ q.second → p ≡ q
pair_same p q e f = λ i. record { first = e i; second = f i }

cond_yes : {X : Type 0} (b : Bool) (x y : X) → T b → cond b x y ≡ x
cond_yes true x y t = refl
cond_yes false x y t = absurd t

cond_no : {X : Type 0} (b : Bool) (x y : X) → ¬ (T b) → cond b x y ≡ y
cond_no true x y n = absurd (n tt)
cond_no false x y n = refl

never : false ≡ true → ⊥
never e = let z : ◌≡◌ {A = ℕ} 0 1 = cc in omega arith

-- the two tests of the order, taken apart
split : (a b s : Bool) → cond a (cond b s true) false ≡ true → (a ≡ true) × ((b ≡ false) ⊎ (s ≡ true))
split true true s e = (refl, inr e)
split true false s e = (refl, inl refl)
split false b s e = absurd (never e)

-- and put together
join : (a b s : Bool) → a ≡ true → (b ≡ true → s ≡ true) → cond a (cond b s true) false ≡ true
join true true s e f = f refl
join true false s e f = refl
join false b s e f = absurd (never e)

module _ {A B : Type 0} (k : Kind A) (l : Kind B) (kl : Laws k) (ll : Laws l) where
  left : (p q : Pair A B) → Formed (pair_kind k l) p q → Formed k p.first q.first
  left p q f = omega arith

  right : (p q : Pair A B) → Formed (pair_kind k l) p q → Formed l p.second q.second
  right p q f = omega arith

  plus_is : (p q : Pair A B) → Formed (pair_kind k l) p q → pair_plus k l p q ≡ both (k.plus p.first q.first) (l.plus p.second q.second)
  plus_is p q f = cond_yes _ _ _ (le→leb _ _ f)

  minus_is : (p q : Pair A B) → Formed (pair_kind k l) p q → pair_minus k l p q ≡ both (k.minus p.first q.first) (l.minus p.second q.second)
  minus_is p q f = cond_yes _ _ _ (le→leb _ _ f)

  over : (p q : Pair A B) → limit < pair_span k l p + pair_span k l q → ¬ (T (nat_le (pair_span k l p + pair_span k l q) limit))
  over p q o t = let h = leb→le (pair_span k l p + pair_span k l q) limit t in omega arith

  pair_plus_span : (p q : Pair A B) → Formed (pair_kind k l) p q → pair_span k l (pair_plus k l p q) ≤ pair_span k l p + pair_span k l q
  pair_plus_span p q f =
      let a = kl.plus_span p.first q.first (left p q f) in
      let b = ll.plus_span p.second q.second (right p q f) in
      rw (plus_is p q f) (omega arith)

  pair_minus_span : (p q : Pair A B) → Formed (pair_kind k l) p q → pair_span k l (pair_minus k l p q) ≤ pair_span k l p + pair_span k l q
  pair_minus_span p q f =
      let a = kl.minus_span p.first q.first (left p q f) in
      let b = ll.minus_span p.second q.second (right p q f) in
      rw (minus_is p q f) (omega arith)

  pair_comm : (p q : Pair A B) → Formed (pair_kind k l) p q → pair_plus k l p q ≡ pair_plus k l q p
  pair_comm p q f =
      let g : Formed (pair_kind k l) q p = omega arith in
      plus_is p q f ∙ pair_same _ _ (kl.plus_comm p.first q.first (left p q f)) (ll.plus_comm p.second q.second (right p q f)) ∙ sym (plus_is q p g)

  pair_assoc : (p q r : Pair A B) → Formed (pair_kind k l) p q → Formed (pair_kind k l) (pair_plus k l p q) r → Formed (pair_kind k l) q r → Formed (pair_kind k l) p (pair_plus k l q r) → pair_plus k l (pair_plus k l p q) r ≡ pair_plus k l p (pair_plus k l q r)
  pair_assoc p q r f g h j =
      let pq = both (k.plus p.first q.first) (l.plus p.second q.second) in
      let qr = both (k.plus q.first r.first) (l.plus q.second r.second) in
      let g' : Formed (pair_kind k l) pq r = rw (plus_is p q f) at g in
      let j' : Formed (pair_kind k l) p qr = rw (plus_is q r h) at j in
      ap (λ (x : Pair A B). pair_plus k l x r) (plus_is p q f) ∙ plus_is pq r g'
      ∙ pair_same _ _
      (kl.plus_assoc p.first q.first r.first (left p q f) (left pq r g') (left q r h) (left p qr j'))
      (ll.plus_assoc p.second q.second r.second (right p q f) (right pq r g') (right q r h) (right p qr j'))
      ∙ sym (plus_is p qr j') ∙ sym (ap (λ (x : Pair A B). pair_plus k l p x) (plus_is q r h))

  pair_plus_zero : (p : Pair A B) → Formed (pair_kind k l) p (pair_zero k l) → pair_plus k l p (pair_zero k l) ≡ p
  pair_plus_zero p f =
      plus_is p (pair_zero k l) f ∙ pair_same _ _ (kl.plus_zero p.first (left p (pair_zero k l) f)) (ll.plus_zero p.second (right p (pair_zero k l) f))

  pair_minus_plus : (p q : Pair A B) → Formed (pair_kind k l) p q → Formed (pair_kind k l) (pair_minus k l p q) q → pair_plus k l (pair_minus k l p q) q ≡ p
  pair_minus_plus p q f g =
      let d = both (k.minus p.first q.first) (l.minus p.second q.second) in
      let g' : Formed (pair_kind k l) d q = rw (minus_is p q f) at g in
      ap (λ (x : Pair A B). pair_plus k l x q) (minus_is p q f) ∙ plus_is d q g'
      ∙ pair_same _ _
      (kl.minus_plus p.first q.first (left p q f) (left d q g'))
      (ll.minus_plus p.second q.second (right p q f) (right d q g'))

  pair_plus_apart : (p q r : Pair A B) → Formed (pair_kind k l) p r → Formed (pair_kind k l) q r → pair_plus k l p r ≡ pair_plus k l q r → p ≡ q
  pair_plus_apart p q r f g e =
      let e' = sym (plus_is p r f) ∙ e ∙ plus_is q r g in
      pair_same p q
      (kl.plus_apart p.first q.first r.first (left p r f) (left q r g) (ap (λ (x : Pair A B). x.first) e'))
      (ll.plus_apart p.second q.second r.second (right p r f) (right q r g) (ap (λ (x : Pair A B). x.second) e'))

  -- what the order says
  Ordered : Pair A B → Pair A B → Type 0
  Ordered p q = AtMost k p.first q.first × (AtMost k q.first p.first → AtMost l p.second q.second)

  ordered_out : (p q : Pair A B) → AtMost (pair_kind k l) p q → Ordered p q
  unfolding Ordered
  ordered_out p q e =
      let s = split (k.at_most p.first q.first) (k.at_most q.first p.first) (l.at_most p.second q.second) e in
      (s.0, λ back. ⊎_elim (λ no. absurd (never (sym no ∙ back))) (λ y. y) s.1)

  ordered_in : (p q : Pair A B) → Ordered p q → AtMost (pair_kind k l) p q
  unfolding Ordered
  ordered_in p q o = join (k.at_most p.first q.first) (k.at_most q.first p.first) (l.at_most p.second q.second) o.0 o.1

  pair_order : (p q r : Pair A B) → Formed (pair_kind k l) p r → Formed (pair_kind k l) q r → AtMost (pair_kind k l) p q → AtMost (pair_kind k l) (pair_plus k l p r) (pair_plus k l q r)
  unfolding Ordered
  pair_order p q r f g e =
      let o = ordered_out p q e in
      let first = kl.plus_order p.first q.first r.first (left p r f) (left q r g) o.0 in
      let second : AtMost k (k.plus q.first r.first) (k.plus p.first r.first) → AtMost l (l.plus p.second r.second) (l.plus q.second r.second) =
      λ back.
      let same = kl.plus_apart p.first q.first r.first (left p r f) (left q r g) (kl.order_antisym _ _ first back) in
      let again : AtMost k q.first p.first = rw same (⊎_elim (λ y. y) (λ y. y) (kl.order_total q.first q.first)) in
      ll.plus_order p.second q.second r.second (right p r f) (right q r g) (o.1 again) in
      rw (plus_is p r f, plus_is q r g) (ordered_in _ _ (first, second))

  pair_total : (p q : Pair A B) → AtMost (pair_kind k l) p q ⊎ AtMost (pair_kind k l) q p
  pair_total p q = total-by (k.at_most p.first q.first) (k.at_most q.first p.first) (l.at_most p.second q.second) (l.at_most q.second p.second) (kl.order_total p.first q.first) (ll.order_total p.second q.second)
    where
      total-by : (a b s t : Bool) → (a ≡ true) ⊎ (b ≡ true) → (s ≡ true) ⊎ (t ≡ true) → (cond a (cond b s true) false ≡ true) ⊎ (cond b (cond a t true) false ≡ true)
      total-by true true s t o u = u
      total-by true false s t o u = inl refl
      total-by false true s t o u = inr refl
      total-by false false s t o u = ⊎_elim (λ e. absurd (never e)) (λ e. absurd (never e)) o

  pair_antisym : (p q : Pair A B) → AtMost (pair_kind k l) p q → AtMost (pair_kind k l) q p → p ≡ q
  unfolding Ordered
  pair_antisym p q e f =
      let o = ordered_out p q e in
      let u = ordered_out q p f in
      pair_same p q (kl.order_antisym p.first q.first o.0 u.0) (ll.order_antisym p.second q.second (o.1 u.0) (u.1 o.0))

  pair_trans : (p q r : Pair A B) → AtMost (pair_kind k l) p q → AtMost (pair_kind k l) q r → AtMost (pair_kind k l) p r
  unfolding Ordered
  pair_trans p q r e f =
      let o = ordered_out p q e in
      let u = ordered_out q r f in
      ordered_in p r (
        kl.order_trans p.first q.first r.first o.0 u.0,
        λ back. ll.order_trans p.second q.second r.second
            (o.1 (kl.order_trans q.first r.first p.first u.0 back))
            (u.1 (kl.order_trans r.first p.first q.first back o.0)),
      )

  pub pair_laws : Laws (pair_kind k l)
  pair_laws = record {
    zero_span = let a = kl.zero_span in let b = ll.zero_span in omega arith;
    plus_span = pair_plus_span;
    minus_span = pair_minus_span;
    plus_beyond = λ p q o. cond_no _ _ _ (over p q o);
    minus_beyond = λ p q o. cond_no _ _ _ (over p q o);
    plus_comm = pair_comm;
    plus_assoc = pair_assoc;
    plus_zero = pair_plus_zero;
    minus_plus = pair_minus_plus;
    plus_order = pair_order;
    plus_apart = pair_plus_apart;
    order_total = pair_total;
    order_antisym = pair_antisym;
    order_trans = pair_trans;
  }
