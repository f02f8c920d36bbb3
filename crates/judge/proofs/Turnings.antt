-- The way turned over, event by event.
use Rattle.std.proofs.Common.{◌≡◌, ℕ, ◌<◌}
use Rattle.costs.specs.Kind.{Kind}
use Rattle.tables.specs.Table.{Within}
use Rattle.tables.specs.declared.grade.Grade.{Grade}
use Rattle.judge.specs.Seating.{put, Seating, SeatsOneMore}
use Rattle.judge.specs.Turning.{Turning}
use Rattle.judge.proofs.Holes.{turn, last}

module _ {C : Type 0} (k : Kind C) (g : ℕ → ℕ → Grade C) (s b r : ℕ) (seat₀ seat h : ℕ → ℕ) (w : ℕ → C) (by : ℕ → ℕ) (j : ℕ) (x : Turning k g s b r seat₀ seat h w by j) where
  -- number j and the event that found it
  pub turning_numbers : Within s j × Within s (by j)
  turning_numbers = (x.hole.within, x.hole.next.0)

  -- the event is not r: it takes j, and its number stands open
  pub turns : (by j ≡ r → ⊥) → Within s (seat (by j)) × (b' : ℕ) × (b' < b) × Turning k g s b' r seat₀ (put seat (by j) j) (put h j (by j)) w by (seat (by j))
  turns n =
      let o = turn k g s r seat₀ x.h₀ x.a w x.inside x.done by x.rank x.ways seat h j b x.hole n in (
        o.2,
        x.rank (seat (by j)),
        o.1,
        record {
          h₀ = x.h₀;
          a = x.a;
          inside = x.inside;
          done = x.done;
          rank = x.rank;
          ways = x.ways;
          hole = o.0;
          unseated = x.unseated;
          under = x.under;
          small_a = x.small_a;
          small_w = x.small_w;
        },
      )

  -- the event is r: it takes j, and all is in order
  pub ends_seated : by j ≡ r → (u : ℕ → C) × Seating k g s (put seat (by j) j) (put h j (by j)) u w × SeatsOneMore k g s seat₀ r (put seat (by j) j)
  ends_seated e =
      let o = last k g s r seat₀ x.h₀ x.a w x.inside x.done by x.rank x.ways seat h j b x.hole x.unseated e x.under x.small_a x.small_w in
      (x.a, o.0, o.1)
