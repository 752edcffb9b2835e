-- What a reader believes of the meaning: the fill byte is c mod 256, the one r below 256 for which c is a multiple of 256 plus r;
-- memmove leaves what memcpy's words say too, so the two differ only where C leaves memcpy undefined.
-- Assumes nothing.
use mathlib.Core.Path.{◌≡◌, sym, ap, ◌∙◌}
use Prim.Native.Nat.{ℕ, suc, ◌+◌, ◌*◌, ◌-◌, ◌/◌, ◌%◌, ◌<◌}
use native.Mathlib.Nat.{div-add-mod', mod-lt}
use native.Mathlib.Omega.{arith}
use lib.Arith.{digits_mod}
use lib.IntN.{ℤ, pos, negsuc, neg_ℤ, ◌+ℤ◌, ◌*ℤ◌}
use borrow.Author.Tests.{lt-ltb}
use Rattle.model.specs.Memory.{byte_of}
use Rattle.model.specs.Meaning.{memcpy, memmove}
use Rattle.model.proofs.MemoryLaws.{over_cong}

-- c is a multiple of 256 plus r.
pub record Residue (c : ℤ) (r : ℕ) : Type 0 where
  pub small : r < 256
  pub multiple : ℤ
  pub sum : c ≡ multiple *ℤ pos 256 +ℤ pos r

below_zero : (a r : ℕ) → r < 256 → negsuc a *ℤ pos 256 +ℤ pos r ≡ negsuc (a * 256 + (255 - r))
below_zero a r l =
    let e : suc a * 256 ≡ suc (a * 256 + 255) = omega arith in
    ap (λ (n : ℕ). neg_ℤ (pos n) +ℤ pos r) e
    ∙ rw (lt-ltb r (suc (a * 256 + 255)) (omega arith)) (ap negsuc (omega arith))

pub byte_of_residue : (c : ℤ) → Residue c (byte_of c)
byte_of_residue (pos n) =
    record { small = mod-lt n (omega arith); multiple = pos (n / 256); sum = ap pos (sym (div-add-mod' n 256)) }
byte_of_residue (negsuc n) =
    record {
      small = omega arith;
      multiple = negsuc (n / 256);
      sum = ap negsuc (omega arith) ∙ sym (below_zero (n / 256) (255 - n % 256) (omega arith));
    }

residue_byte : (q : ℤ) (r : ℕ) → r < 256 → byte_of (q *ℤ pos 256 +ℤ pos r) ≡ r
residue_byte (pos a) r l = digits_mod a l
residue_byte (negsuc a) r l = ap byte_of (below_zero a r l) ∙ omega arith

pub byte_of_unique : (c : ℤ) (r : ℕ) → Residue c r → r ≡ byte_of c
byte_of_unique c r h = sym (ap byte_of h.sum ∙ residue_byte h.multiple r h.small)

-- By way of a temporary array, or not: the same bytes come to the same places.
pub memmove-memcpy : (s1 s2 n : ℕ) (f : ℕ → ℕ) → memmove s1 s2 n f ≡ memcpy s1 s2 n f
unfolding memmove memcpy
memmove-memcpy s1 s2 n f =
    over_cong s1 n (λ x. f (s2 + (x - s1))) (λ x. f ((x + s2) - s1)) f (λ x l m. ap f (omega arith))
