-- Demand 2's memory, from demand 3's lists: performing the list of a call leaves what C says, from any memory and any held bytes.
-- Assumes nothing.
use mathlib.Core.Path.{◌≡◌, refl, sym, ap, ap₂, ◌∙◌, fun_ext}
use mathlib.Core.Bool.{Bool, true, false, ◌||◌}
use Prim.Native.Nat.{ℕ, ◌+◌, ◌-◌, ◌<◌}
use native.Mathlib.Decide.{dec_lt}
use native.Mathlib.Omega.{arith}
use lib.Dec.{leb, ltb, eqb}
use lib.IntN.{ℤ}
use borrow.Author.Tests.{leb-true, ltb-true, ltb-false, eqb-true, lt-ltb}
use Rattle.model.specs.Lists.{cursor, chunk, along, copy_list, upward, move_list, fill_list}
use Rattle.model.specs.Meaning.{memcpy, memmove, memset}
use Rattle.model.specs.Memory.{over, byte_of}
use Rattle.model.specs.Perform.{State, perform, moving, filling}
use Rattle.model.specs.Refusals.{overlap}
use Rattle.model.proofs.MeaningLaws.{memmove-memcpy}
use Rattle.model.proofs.RefusalLaws.{not_both}
use Rattle.lists.specs.Sizes.{Core}
use Rattle.lists.proofs.Ranges.{over_none}
use Rattle.lists.proofs.Cursors.{cursor_room, cursor_start, cursor_gap}
use Rattle.lists.proofs.Blocks.{stores_performed}
use Rattle.lists.proofs.Filled.{fill_block}
use Rattle.lists.proofs.Safety.{Safe, behind, clear_above, ahead, clear_below}
use Rattle.lists.proofs.Performing.{Done, walk_performed}
use Rattle.lists.proofs.Walked.{along_walk}

-- ---- from cursors to first addresses

safe_cursors : (dest src n : ℕ) (up : Bool) → Safe dest src n up → Safe (cursor up dest n) (cursor up src n) n up
safe_cursors dest src n true h = h
safe_cursors dest src n false (ahead h) = ahead (omega arith)
safe_cursors dest src n false (clear_below h) = clear_below (omega arith)

same_give : (up : Bool) (dest src n : ℕ) → moving (cursor up dest n) (cursor up src n) ≡ moving dest src
same_give up dest src n = fun_ext (λ (h : ℕ → ℕ). fun_ext (λ (x : ℕ). ap h (cursor_gap up dest src n x)))

same_copy : (up : Bool) (dest src n : ℕ) (f : ℕ → ℕ)
    → over (chunk up (cursor up dest n) n) n (λ x. f ((x + cursor up src n) - cursor up dest n)) f ≡ memcpy dest src n f
unfolding memcpy
same_copy up dest src n f =
    ap₂ (λ (a : ℕ) (g : ℕ → ℕ). over a n g f) (cursor_start up dest n) (fun_ext (λ (x : ℕ). ap f (cursor_gap up dest src n x)))

-- Nothing is stored yet, and nothing loaded.
begun : (up : Bool) (d s : ℕ) (z : State) → Done up d s z.bytes 0 0 z
begun up d s z =
    record {
      bytes = sym (over_none (chunk up d 0) (λ x. z.bytes ((x + s) - d)) z.bytes);
      held = λ x lo hi. absurd (omega arith);
    }

-- ---- the theorems

-- Performing a list in either direction moves the bytes, wherever no store lands on a source byte that is still to be loaded.
pub along_performed : {W : ℕ} → Core W → (up : Bool) (dest src n : ℕ) → Safe dest src n up → (z : State)
    → (perform (moving dest src) (along up W dest src n) z).bytes ≡ memmove dest src n z.bytes
along_performed {W} p up dest src n h z =
    ap (λ (give : (ℕ → ℕ) → ℕ → ℕ). (perform give (along up W dest src n) z).bytes) (sym (same_give up dest src n))
    ∙ (walk_performed up (cursor up dest n) (cursor up src n) n z.bytes (safe_cursors dest src n up h)
    (cursor_room up dest n) (cursor_room up src n) (along_walk p up dest src n) z (begun up (cursor up dest n) (cursor up src n) z)).bytes
    ∙ same_copy up dest src n z.bytes ∙ sym (memmove-memcpy dest src n z.bytes)

-- Move: "forward if dest >= src + n or dest < src or n = 0, else backward" is safe.
pub upward_safe : (dest src n : ℕ) → Safe dest src n (upward dest src n)
upward_safe dest src n = go (leb (src + n) dest) refl (ltb dest src) refl (eqb n 0) refl
  where
    go : (a : Bool) → leb (src + n) dest ≡ a → (b : Bool) → ltb dest src ≡ b → (c : Bool) → eqb n 0 ≡ c
        → Safe dest src n (a || b || c)
    go true p b q c r = clear_above (leb-true (src + n) dest p)
    go false p true q c r = behind (omega (arith, ltb-true dest src q))
    go false p false q true r = clear_above (omega (arith, ltb-false dest src q, eqb-true n 0 r))
    go false p false q false r = ahead (ltb-false dest src q)

-- Performing the list of a move leaves C's memmove: every overlap, equal addresses, and n = 0.
pub move_performed : {W : ℕ} → Core W → (dest src n : ℕ) (z : State)
    → (perform (moving dest src) (move_list W dest src n) z).bytes ≡ memmove dest src n z.bytes
move_performed p dest src n z = along_performed p (upward dest src n) dest src n (upward_safe dest src n) z

-- Ranges that do not overlap are safe forward.
apart_safe : (dest src n : ℕ) → (overlap dest src n).holds ≡ false → Safe dest src n true
apart_safe dest src n e = go (dec_lt src dest) (dec_lt dest (src + n))
  where
    go : Dec (src < dest) → Dec (dest < src + n) → Safe dest src n true
    go (no l) m = behind (omega arith)
    go (yes l) (no m) = clear_above (omega arith)
    go (yes l) (yes m) =
        let all : (overlap dest src n).holds ≡ true =
        rw (lt-ltb 0 n (omega arith), lt-ltb dest (src + n) m, lt-ltb src (dest + n) (omega arith)) in
        absurd (not_both (overlap dest src n).holds all e)

-- Performing the list of a copy between ranges that do not overlap leaves C's memcpy.
pub copy_performed : {W : ℕ} → Core W → (dest src n : ℕ) → (overlap dest src n).holds ≡ false → (z : State)
    → (perform (moving dest src) (copy_list W dest src n) z).bytes ≡ memcpy dest src n z.bytes
copy_performed p dest src n h z =
    along_performed p true dest src n (apart_safe dest src n h) z ∙ memmove-memcpy dest src n z.bytes

-- Performing the list of a fill leaves C's memset.
pub fill_performed : {W : ℕ} → Core W → (s n : ℕ) (c : ℤ) (z : State)
    → (perform (filling (byte_of c)) (fill_list W s n) z).bytes ≡ memset s c n z.bytes
unfolding memset
fill_performed p s n c z = ap (λ (y : State). y.bytes) (stores_performed (filling (byte_of c)) (fill_block p s n) z)
