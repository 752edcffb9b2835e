-- Performing a walk moves the bytes: from any held bytes, wherever no store lands on a source byte that is still to be loaded.
-- Invariant: what is stored came from the memory as it was at first, and so did all that is held of the source. Assumes nothing.
use mathlib.Core.Path.{◌≡◌, ap, ◌∙◌}
use mathlib.Core.Bool.{Bool, true, false}
use mathlib.Core.List.{List}
use Prim.Native.Nat.{ℕ, ◌+◌, ◌-◌, ◌<◌, ◌≤◌}
use native.Mathlib.Omega.{arith}
use Rattle.model.specs.Access.{Access, load, store}
use Rattle.model.specs.Lists.{chunk, past}
use Rattle.model.specs.Memory.{over}
use Rattle.model.specs.Perform.{State, step, perform, moving}
use Rattle.model.proofs.MemoryLaws.{over_in, over_cong, Place, below, inside, above, place}
use Rattle.model.proofs.PerformLaws.{perform-append}
use Rattle.lists.proofs.Ranges.{Outside, before, beyond, over_out, over_not, over_adjacent}
use Rattle.lists.proofs.Cursors.{Room, room_less, next_chunk}
use Rattle.lists.proofs.Blocks.{loads_performed}
use Rattle.lists.proofs.Safety.{Safe, behind, clear_above, ahead, clear_below}
use Rattle.lists.proofs.Walks.{Walk, stays, loads, stored, both}

-- No byte is among the k stored and among the next m of the source.
unspoilt : (up : Bool) (d s n k l m x : ℕ) → Safe d s n up → Room up d n → Room up s n → k ≤ l → l + m ≤ n
    → chunk up (past up s l) m ≤ x → x < chunk up (past up s l) m + m → chunk up d k ≤ x → x < chunk up d k + k → ⊥
unspoilt true d s n k l m x (behind h) q r i j lo hi from to = omega arith
unspoilt true d s n k l m x (clear_above h) q r i j lo hi from to = omega arith
unspoilt false d s n k l m x (ahead h) q r i j lo hi from to = omega arith
unspoilt false d s n k l m x (clear_below h) q r i j lo hi from to = omega arith

-- Of the l + m bytes loaded, one that is not among the last m is among the first l.
earlier : (up : Bool) (s n l m x : ℕ) → Room up s n → l + m ≤ n → Outside (chunk up (past up s l) m) m x
    → chunk up s (l + m) ≤ x → x < chunk up s (l + m) + (l + m) → (chunk up s l ≤ x) × (x < chunk up s l + l)
earlier true s n l m x r j (before o) lo hi = (omega arith, omega arith)
earlier true s n l m x r j (beyond o) lo hi = absurd (omega arith)
earlier false s n l m x r j (before o) lo hi = absurd (omega arith)
earlier false s n l m x r j (beyond o) lo hi = (omega arith, omega arith)

-- What goes to the next w bytes of the destination has been loaded.
at_hand : (up : Bool) (d s n k l w x : ℕ) → Room up d n → Room up s n → k + w ≤ l → l ≤ n
    → chunk up (past up d k) w ≤ x → x < chunk up (past up d k) w + w
    → (chunk up s l ≤ (x + s) - d) × ((x + s) - d < chunk up s l + l)
at_hand true d s n k l w x q r i j lo hi = (omega arith, omega arith)
at_hand false d s n k l w x q r i j lo hi = (omega arith, omega arith)

-- After k bytes stored and l loaded, where the bytes were f at first.
pub record Done (up : Bool) (d s : ℕ) (f : ℕ → ℕ) (k l : ℕ) (z : State) : Type 0 where
  pub bytes : z.bytes ≡ over (chunk up d k) k (λ x. f ((x + s) - d)) f
  pub held : (x : ℕ) → chunk up s l ≤ x → x < chunk up s l + l → z.held x ≡ f x

module _ (up : Bool) (d s n : ℕ) (f : ℕ → ℕ) (safe : Safe d s n up) (q : Room up d n) (r : Room up s n) where
  loaded : (k l m : ℕ) (z : State) → k ≤ l → l + m ≤ n → Done up d s f k l z
      → Done up d s f k (l + m) (step (moving d s) (load m (chunk up (past up s l) m)) z)
  loaded k l m z i j e = record { bytes = e.bytes; held = λ x lo hi. go x lo hi (place (chunk up (past up s l) m) m x) }
    where
      a : ℕ
      a = chunk up (past up s l) m

      kept : (x : ℕ) → chunk up s (l + m) ≤ x → x < chunk up s (l + m) + (l + m) → Outside a m x
          → over a m z.bytes z.held x ≡ f x
      kept x lo hi o =
          let h = earlier up s n l m x r j o lo hi in
          over_out a m z.bytes z.held x o ∙ e.held x h.0 h.1

      go : (x : ℕ) → chunk up s (l + m) ≤ x → x < chunk up s (l + m) + (l + m) → Place a m x
          → over a m z.bytes z.held x ≡ f x
      go x lo hi (inside u v) =
          over_in a m z.bytes z.held x u v ∙ ap (λ (g : ℕ → ℕ). g x) e.bytes
          ∙ over_not (chunk up d k) k (λ x. f ((x + s) - d)) f x (unspoilt up d s n k l m x safe q r i j u v)
      go x lo hi (below u) = kept x lo hi (before u)
      go x lo hi (above u) = kept x lo hi (beyond u)

  wrote : (k l w : ℕ) (z : State) → k + w ≤ l → l ≤ n → Done up d s f k l z
      → Done up d s f (k + w) l (step (moving d s) (store w (chunk up (past up d k) w)) z)
  wrote k l w z i j e =
      record {
        bytes = over_cong a w (λ x. z.held ((x + s) - d)) (λ x. f ((x + s) - d)) z.bytes
            (λ x lo hi. let h = at_hand up d s n k l w x q r i j lo hi in e.held ((x + s) - d) h.0 h.1)
            ∙ ap (λ (g : ℕ → ℕ). over a w (λ x. f ((x + s) - d)) g) e.bytes
            ∙ over_adjacent (λ x. f ((x + s) - d)) f (next_chunk up d k w (room_less up d (k + w) n (omega arith) q));
        held = e.held;
      }
    where
      a : ℕ
      a = chunk up (past up d k) w

  pub walk_performed : {W : ℕ} {xs : List Access} {k l k' l' : ℕ} → Walk W up d s n xs k l k' l' → (z : State)
      → Done up d s f k l z → Done up d s f k' l' (perform (moving d s) xs z)
  unfolding perform
  walk_performed stays z e = e
  walk_performed (loads {k = k} {l} {m} b i j) z e =
      rw (loads_performed (moving d s) b z) (loaded k l m z i j e)
  walk_performed (stored {w} {k} {l} a i j) z e = wrote k l w z i j e
  walk_performed (both {xs} {ys} v w) z e =
      rw (perform-append (moving d s) xs ys z) (walk_performed w (perform (moving d s) xs z) (walk_performed v z e))
