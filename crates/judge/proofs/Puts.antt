-- A function changed at one place.
use Rattle.std.proofs.Common.{◌≡◌, ℕ, Bool, true, false, cond, ◌⊎◌, Some, None, Option, sym, refl, ap, ◌∙◌, inl, inr, ⊎_elim}
use Rattle.std.proofs.lemmas.Bool.{both_ways, cases_eq, eq-eqb, ne_eqb, false≢true}
use Rattle.judge.specs.Seating.{put}

pub put_here : {X : Type 0} (f : ℕ → X) (i : ℕ) (y : X) → put f i y i ≡ y
put_here f i y = ap (λ b. cond b y (f i)) (eq-eqb i i refl)

pub put_there : {X : Type 0} (f : ℕ → X) (i : ℕ) (y : X) (c : ℕ) → (c ≡ i → ⊥) → put f i y c ≡ f c
put_there f i y c n = ap (λ b. cond b y (f c)) (ne_eqb c i n)

pub put_true : (f : ℕ → Bool) (i c : ℕ) → put f i true c ≡ true → (c ≡ i) ⊎ ((c ≡ i → ⊥) × (f c ≡ true))
put_true f i c e = ⊎_elim (λ (q : c ≡ i). inl q) (λ (q : c ≡ i → ⊥). inr (q, sym (put_there f i true c q) ∙ e)) (cases_eq c i)

pub put_false : (f : ℕ → Bool) (i c : ℕ) → put f i true c ≡ false → (c ≡ i → ⊥) × (f c ≡ false)
put_false f i c e =
    ⊎_elim (λ (q : c ≡ i). absurd (both_ways (put f i true c) e (ap (put f i true) q ∙ put_here f i true))) (λ (q : c ≡ i → ⊥). (q, sym (put_there f i true c q) ∙ e)) (cases_eq c i)

-- a place is the changed one, or holds what it held
pub at_put : {X : Type 0} (f : ℕ → X) (i : ℕ) (y : X) (c : ℕ) → ((c ≡ i) × (put f i y c ≡ y)) ⊎ ((c ≡ i → ⊥) × (put f i y c ≡ f c))
at_put f i y c = ⊎_elim (λ (q : c ≡ i). inl (q, ap (put f i y) q ∙ put_here f i y)) (λ (q : c ≡ i → ⊥). inr (q, put_there f i y c q)) (cases_eq c i)

pub none_some : {C : Type 0} (p : C) → None ≡ Some p → ⊥
none_some {C} p m = false≢true (ap some m)
  where
    some : Option C → Bool
    some None = false
    some (Some q) = true
