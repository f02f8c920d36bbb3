-- What a cost kind is: its operations, and the laws that they keep.
use Rattle.std.specs.Prelude.{◌≡◌, ℕ, ◌+◌, ◌<◌, ◌≤◌, Bool, true, ◌⊎◌}

-- the largest total of two spans at which a sum or a difference is formed
abbrev pub limit : ℕ
limit = 1000000000000

-- the operations of a kind whose values are C; the span of a value is a whole number from 0 up
pub record Kind (C : Type 0) : Type 0 where
  pub zero : C
  pub plus : C → C → C
  pub minus : C → C → C
  pub at_most : C → C → Bool
  pub span : C → ℕ

-- the sum and the difference of a and b are formed
abbrev pub Formed : {C : Type 0} → Kind C → C → C → Type 0
Formed k a b = k.span a + k.span b ≤ limit

-- a is at most b
abbrev pub AtMost : {C : Type 0} → Kind C → C → C → Type 0
AtMost k a b = k.at_most a b ≡ true

-- Each law holds where every sum and difference that it speaks of is formed; beyond that an answer is zero.
pub record Laws {C : Type 0} (k : Kind C) : Type 0 where
  pub zero_span : k.span k.zero ≡ 0
  pub plus_span : (a b : C) → Formed k a b → k.span (k.plus a b) ≤ k.span a + k.span b
  pub minus_span : (a b : C) → Formed k a b → k.span (k.minus a b) ≤ k.span a + k.span b
  pub plus_beyond : (a b : C) → limit < k.span a + k.span b → k.plus a b ≡ k.zero
  pub minus_beyond : (a b : C) → limit < k.span a + k.span b → k.minus a b ≡ k.zero
  -- order and grouping of a sum do not matter, and zero adds nothing
  pub plus_comm : (a b : C) → Formed k a b → k.plus a b ≡ k.plus b a
  pub plus_assoc : (a b c : C) → Formed k a b → Formed k (k.plus a b) c → Formed k b c → Formed k a (k.plus b c) → k.plus (k.plus a b) c ≡ k.plus a (k.plus b c)
  pub plus_zero : (a : C) → Formed k a k.zero → k.plus a k.zero ≡ a
  -- a difference added to what was taken away gives back the first value
  pub minus_plus : (a b : C) → Formed k a b → Formed k (k.minus a b) b → k.plus (k.minus a b) b ≡ a
  -- adding the same value keeps the order, and keeps unequal values unequal
  pub plus_order : (a b c : C) → Formed k a c → Formed k b c → AtMost k a b → AtMost k (k.plus a c) (k.plus b c)
  pub plus_apart : (a b c : C) → Formed k a c → Formed k b c → k.plus a c ≡ k.plus b c → a ≡ b
  pub order_total : (a b : C) → AtMost k a b ⊎ AtMost k b a
  pub order_antisym : (a b : C) → AtMost k a b → AtMost k b a → a ≡ b
  pub order_trans : (a b c : C) → AtMost k a b → AtMost k b c → AtMost k a c
