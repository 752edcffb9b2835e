-- The log tells the accesses: no two accesses that fit have the same number, and no two lists of them leave the same log from the same start,
-- if it has room for both. So a routine that left the log of its list made these accesses, and no others.
-- By arithmetic on one number; by induction on the lists. Assumes nothing.
use mathlib.Core.Path.{◌≡◌, refl, sym, ap, ap₂, ◌∙◌}
use mathlib.Core.List.{List, [], ◌∷◌, ◌++◌, map}
use Prim.Native.Nat.{ℕ, ◌^◌, ◌<◌, ◌≤◌}
use native.Mathlib.Nat.{suc_inj, suc-ne-zero}
use native.Mathlib.Omega.{arith}
use lib.ListN.{length, get_or, drop}
use Rattle.model.specs.declared.Log.{Log}
use Rattle.model.specs.declared.Work.{Work}
use Rattle.model.specs.Access.{Access, load, store}
use Rattle.model.specs.Fit.{Fit, fits, Every, next}
use Rattle.model.specs.Log.{width_code, per_code, entry_of, log_after, Recorded}
use Rattle.model.proofs.LogLaws.{log_written, log_place}
use Rattle.model.proofs.Widths.{code_power}
use Rattle.model.proofs.WordLaws.{eight_bytes, address_fits}
use Rattle.lists.specs.Sizes.{Core, eight_byte, four_byte}

-- What is known of the width and the address of an access that fits.
record Told (w a : ℕ) : Type 0 where
  small : width_code w < 4
  power : 2 ^ width_code w ≡ w
  address : a < per_code

told : {W k w a : ℕ} → Core W → Fit W k w a → Told w a
told {w = w} eight_byte f =
    let p = code_power w (eight_bytes refl f.aligned) in
    record { small = p.0; power = p.1; address = address_fits (omega arith) f }
told {w = w} four_byte f =
    let p = code_power w (eight_bytes refl f.aligned) in
    record { small = p.0; power = p.1; address = address_fits (omega arith) f }

same_width : {w v : ℕ} → 2 ^ width_code w ≡ w → 2 ^ width_code v ≡ v → width_code w ≡ width_code v → w ≡ v
same_width p q e = sym p ∙ ap (λ (i : ℕ). 2 ^ i) e ∙ q

pub one_entry : {W : ℕ} → Core W → (k : ℕ) (x y : Access) → fits W k x → fits W k y → entry_of x ≡ entry_of y → x ≡ y
one_entry core k (load w a) (load v b) f g e =
    let p = told core f in
    let q = told core g in
    ap₂ load (same_width p.power q.power (omega (arith, p.small, q.small, p.address, q.address)))
    (omega (arith, p.small, q.small, p.address, q.address))
one_entry core k (store w a) (store v b) f g e =
    let p = told core f in
    let q = told core g in
    ap₂ store (same_width p.power q.power (omega (arith, p.small, q.small, p.address, q.address)))
    (omega (arith, p.small, q.small, p.address, q.address))
one_entry core k (load w a) (store v b) f g e =
    let p = told core f in
    absurd (omega (arith, p.small, p.address))
one_entry core k (store w a) (load v b) f g e =
    let q = told core g in
    absurd (omega (arith, q.small, q.address))

same_list : {W : ℕ} → Core W → (k : ℕ) (xs ys : List Access) (r s : List ℕ) → Every (fits W k) xs → Every (fits W k) ys
    → length xs ≡ length ys → map entry_of xs ++ r ≡ map entry_of ys ++ s → xs ≡ ys
same_list core k [] [] r s p q l e = refl
same_list core k [] (y ∷ ys) r s p q l e = absurd (suc-ne-zero (length ys) (sym l))
same_list core k (x ∷ xs) [] r s p q l e = absurd (suc-ne-zero (length xs) l)
same_list core k (x ∷ xs) (y ∷ ys) r s (next f p) (next g q) l e =
    ap₂ ◌∷◌ (one_entry core k x y f g (ap (λ (ns : List ℕ). get_or ns 0 0) e)) (same_list core k xs ys r s p q (suc_inj l) (ap (drop 1) e))

-- Two logs in which the same numbers were left, from their start on, whatever stood there before.
pub log_tells : {W : ℕ} {xs ys : List Access} {g g' h h' : Log} {a b : Work} → Core W → (k : ℕ) → Every (fits W k) xs → Every (fits W k) ys
    → g.place ≡ 0 → h.place ≡ 0 → length xs ≤ length g.entries.now → length ys ≤ length h.entries.now → Recorded xs g g' a
    → Recorded ys h h' b → g'.place ≡ h'.place → g'.entries.now ≡ h'.entries.now → xs ≡ ys
unfolding log_after
log_tells {xs = xs} {ys} {g} {g'} {h} {h'} core k p q d e l m u v i n =
    same_list core k xs ys (drop (length xs) g.entries.now) (drop (length ys) h.entries.now) p q (sym (log_place u d l) ∙ i ∙ log_place v e m)
    (sym (log_written u d l) ∙ n ∙ log_written v e m)
