-- What a search for one more number leaves of the seats, by places that count from 0.
use Rattle.std.specs.Prelude.{◌≡◌, ℕ, ◌<◌, ◌⊎◌, get_or, None, ◌≢◌, slice_index, slice_index_or}
use Rattle.judge.specs.BitRows.{Has, Shut}
use Rattle.judge.specs.Matching.{Holds, Seated, Stuck, Tried}
use Rattle.judge.specs.declared.matching.Matching.{Matching}

-- the event has a number now, each other event is seated as before, and the numbers that were not untried have the same holders
pub record Joined (before after : Matching) (event : ℕ) : Type 0 where
  pub rows : after.rows ≡ before.rows
  pub here : Seated after.holders event
  pub stay : (e : ℕ) → Seated before.holders e → Seated after.holders e
  pub only : (e : ℕ) → Seated after.holders e → Seated before.holders e ⊎ (e ≡ event)
  pub same : (c : ℕ) → (Has before.untried c → ⊥) → slice_index_or after.holders c None ≡ slice_index_or before.holders c None

-- the number is free now, the same events are seated, and the other numbers that were not untried have the same holders
pub record Freed (before after : Matching) (number : ℕ) : Type 0 where
  pub rows : after.rows ≡ before.rows
  pub free : get_or after.holders number None ≡ None
  pub stay : (e : ℕ) → Seated before.holders e → Seated after.holders e
  pub only : (e : ℕ) → Seated after.holders e → Seated before.holders e
  pub same : (c : ℕ) → (Has before.untried c → ⊥) → (c ≢ number) → slice_index_or after.holders c None ≡ slice_index_or before.holders c None

-- the event finds no number: nobody moved, and each number that was tried is stuck
pub record Refused (before after : Matching) (event : ℕ) : Type 0 where
  pub rows : after.rows ≡ before.rows
  pub same : after.holders ≡ before.holders
  pub tried : Tried before.rows before.holders before.untried after.untried
  pub shut : Shut (slice_index before.rows event) after.untried

-- the number does not come free: nobody moved, and it and each number that was tried are stuck
pub record Kept (before after : Matching) (number : ℕ) : Type 0 where
  pub rows : after.rows ≡ before.rows
  pub same : after.holders ≡ before.holders
  pub tried : Tried before.rows before.holders before.untried after.untried
  pub stuck : Stuck before.rows before.holders after.untried number

-- event e holds number c, which was tried
abbrev pub TriedBy : Matching → ℕ → ℕ → Type 0
TriedBy matching e c = Holds matching.holders e c × (Has matching.untried c → ⊥)

-- the row has the event and the holders of the tried numbers below n, and no others
pub record Marks (matching : Matching) (event n row : ℕ) : Type 0 where
  pub root : Has row event
  pub holder : (e c : ℕ) → c < n → TriedBy matching e c → Has row e
  pub only : (e : ℕ) → Has row e → (e ≡ event) ⊎ ((c : ℕ) × TriedBy matching e c)
