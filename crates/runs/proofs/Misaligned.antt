-- The loop over misaligned words, in both directions: the first part, the turns, the last part and the last store.
-- Assumes nothing.
use mathlib.Core.Path.{◌≡◌, refl, ap, ap₂}
use mathlib.Core.Bool.{Bool, true, false, not}
use mathlib.Core.List.{List, [], ◌∷◌, ◌++◌, append_assoc, append-nil}
use Prim.Native.Nat.{ℕ, ◌+◌, ◌*◌, ◌-◌, ◌^◌, ◌<◌, ◌≤◌}
use native.Mathlib.Nat.{mul-suc, mul-zero}
use native.Mathlib.Numerals.{add-one}
use native.Mathlib.Omega.{arith}
use lib.ListN.{length, length-append}
use Rattle.model.specs.declared.Log.{Log}
use Rattle.model.specs.declared.Work.{Work}
use Rattle.model.specs.Access.{Access, load, store}
use Rattle.runs.specs.Asked.{Ahead, Across}
use Rattle.model.specs.Lists.{upto, chunk, past, near, pairs, front_partial, end_partial, lead, trail, misaligned}
use Rattle.model.specs.Perform.{moving}
use Rattle.runs.specs.Ran.{Lent, lent, Carried, Ran, Anything, Pending, PartFound, part}
use Rattle.model.specs.Tally.{joined, Joinable}
use Rattle.lists.specs.Sizes.{Core}
use Rattle.model.proofs.LogLaws.{recorded_joinable}
use Rattle.runs.proofs.RanLaws.{ran_then, ran_together}
use Rattle.runs.proofs.Asking.{ahead_past, next_room, level}
use Rattle.lists.proofs.Cursors.{Room, past_none, past-past, past_boundary}
use Rattle.lists.proofs.Lengths.{pairs-length}
use Rattle.runs.proofs.Straddled.{part_carried, part_few}

-- The first part is loaded, and i turns are done, of the words at the cursors d and b + o, which is byte o of the word at b. What is left to
-- store of the word that was loaded last is held, and that word is prev.
pub record Turning (up : Bool) (W d b o i prev : ℕ) (z z' : Lent) (work : Work) : Type 0 where
  pub ran : Carried W (moving d (b + o)) Anything (part up W b o ++ pairs up W d (past up (b + o) (near up W o)) i)
      (Pending up W o (past up b (W * i)) prev) z z' work

-- The first part is loaded, and no turn is done.
pub turning_none : {W k d b o n v : ℕ} {ws : List ℕ} {g g' : Log} {a : Work} → Core W → (up : Bool) → Across up W k d b o n
    → PartFound up W o b ws g g' v a → Turning up W d b o 0 v (lent ws g) (lent ws g') a
unfolding pairs upto
turning_none {W} {b = b} {o} core up h r =
    record { ran = rw (append-nil (part up W b o), mul-zero W, past_none up b) (part_carried core up h.word h.some h.less r) }

module _ {W k d o n d' b' : ℕ} (up : Bool) (i b : ℕ) (h : Across up W k d b o n) (p : d' ≡ past up d (W * i)) (q : b' ≡ past up b (W * i))
    (l : W * i + W ≤ n) where
  -- The source's word has advanced by as many words as its cursor.
  source : b' + o ≡ past up (b + o) (W * i)
  source = go up q h.words.both.src
    where
      go : (up : Bool) → b' ≡ past up b (W * i) → Ahead up W k (b + o) n → b' + o ≡ past up (b + o) (W * i)
      go true e a = omega arith
      go false e a = omega (arith, a.here, h.less)

  -- And there is a word after it.
  room : Room up b' W
  room =
      next_room up b' (ahead_past up (W * i) refl source l h.words.both.src)
      (rw (q, none) (past_boundary up b (W * i) 0 W i (back up h.words.both.src) (omega arith) (rw (past_none up b) h.word))) h.less (omega arith)
    where
      none : past up b (W * i) ≡ past up b (0 + W * i)
      none = ap (past up b) (omega arith)

      back : (up : Bool) → Ahead up W k (b + o) n → Room up b (W * i)
      back true a = tt
      back false a = omega (arith, a.here, h.less)

  -- dest and src have advanced together.
  together : {pre post : (ℕ → ℕ) → Type 0} {xs : List Access} {y y' : Lent} {e : Work}
      → Carried W (moving d' (b' + o)) pre xs post y y' e → Carried W (moving d (b + o)) pre xs post y y' e
  together r =
      ran_together d' (b' + o) d (b + o) (rw (p, source) (level up (W * i) h.words.both (omega arith))) r

module _ {W d o n d' b' prev : ℕ} {z z' z'' : Lent} {a e : Work} (up : Bool) (i b : ℕ) (h : Across up W (length z.words) d b o n)
    (p : d' ≡ past up d (W * i)) (q : b' ≡ past up b (W * i)) (l : W * i + W ≤ n) (t : Turning up W d b o i prev z z' a) where
  behind : {ys : List Access} {post : (ℕ → ℕ) → Type 0} {c : Work}
      → Carried W (moving d' (b' + o)) (Pending up W o b' prev) ys post z' z'' e → c ≡ joined a e
      → Carried W (moving d (b + o)) Anything (part up W b o ++ pairs up W d (past up (b + o) (near up W o)) i ++ ys) post z z'' c
  behind r j = ran_then held (together up i b h p q l r) j
    where
      held : Carried W (moving d (b + o)) Anything (part up W b o ++ pairs up W d (past up (b + o) (near up W o)) i)
          (Pending up W o b' prev) z z' a
      held = rw q t.ran

  pub turning_joinable : {ys : List Access} {post : (ℕ → ℕ) → Type 0}
      → Carried W (moving d' (b' + o)) (Pending up W o b' prev) ys post z' z'' e → i < 2 ^ 62 → length ys ≤ 4 → Joinable a e
  turning_joinable r few four =
      recorded_joinable t.ran.recorded r.recorded
      (omega (
        arith,
        length-append (part up W b o) (pairs up W d (past up (b + o) (near up W o)) i),
        part_few up W b o,
        pairs-length up W d (past up (b + o) (near up W o)) i,
      ))

  -- One turn more.
  pub turning_more : {prev' : ℕ} {f : Work}
      → Carried W (moving d' (b' + o)) (Pending up W o b' prev) (load W (past up b' W) ∷ store W (chunk up d' W) ∷ [])
      (Pending up W o (past up b' W) prev') z' z'' e
      → f ≡ joined a e → Turning up W d b o (i + 1) prev' z z'' f
  unfolding pairs upto
  turning_more r j = record {
    ran =
        rw (
          add-one i,
          mul-suc W i,
          ← past-past up b (W * i) W,
          ← q,
          next up q h.words.both.src,
          ← p,
          ← append_assoc (part up W b o) (pairs up W d (past up (b + o) (near up W o)) i)
              (load W (past up b' W) ∷ store W (chunk up d' W) ∷ []),
        ) (behind r j);
  }
    where
      -- The word that comes after the one at b'.
      next : (up : Bool) → b' ≡ past up b (W * i) → Ahead up W (length z.words) (b + o) n
          → chunk up (past up (past up (b + o) (near up W o)) (W * i)) W ≡ past up b' W
      next true e k = omega (arith, h.less)
      next false e k = omega arith

  -- The last part and the last store.
  pub turning_done : {f : Work}
      → Carried W (moving d' (b' + o)) (Pending up W o b' prev) (part (not up) W (past up b' W) o ++ (store W (chunk up d' W) ∷ [])) Anything z' z'' e
      → f ≡ joined a e → Ran W (moving d (b + o)) (misaligned up W d (b + o) (near up W o) i) z z'' f
  unfolding misaligned
  turning_done r j =
      rw (
        first up,
        last up q (room up i b h p q l),
        ← p,
        append_assoc (part up W b o ++ pairs up W d (past up (b + o) (near up W o)) i) (part (not up) W (past up b' W) o)
            (store W (chunk up d' W) ∷ []),
      ) (behind r j)
    where
      first : (up : Bool) → lead up (chunk up (b + o) (near up W o)) (near up W o) ≡ part up W b o
      first true = refl
      first false = ap (λ (x : ℕ). front_partial x o) (omega arith)

      last : (up : Bool) → b' ≡ past up b (W * i) → Room up b' W
          → trail up (chunk up (past up (past up (b + o) (near up W o)) (W * i)) (W - near up W o)) (W - near up W o)
          ≡ part (not up) W (past up b' W) o
      last true e k = ap₂ front_partial (omega (arith, h.less)) (omega (arith, h.less))
      last false e k = ap (λ (x : ℕ). end_partial x (W - o)) (omega (arith, h.less))
