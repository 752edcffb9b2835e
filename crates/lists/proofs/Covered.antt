-- "The list of an accepted call stores each destination byte once, loads each source byte once, touches no other byte." Compare and
-- string length load the bytes up to the place at which they stop, and store nothing.
-- Assumes nothing.
use mathlib.Core.Path.{◌≡◌, refl, sym, ap}
use mathlib.Core.Bool.{Bool}
use mathlib.Core.List.{List, [], ◌∷◌}
use Prim.Native.Nat.{ℕ, zero, suc, ◌+◌, min}
use native.Mathlib.Omega.{arith}
use Rattle.model.specs.Access.{Access, load}
use Rattle.model.specs.Lists.{cursor, chunk, upto, along, fill_list, compare_list, string_list}
use Rattle.model.specs.Tally.{total}
use Rattle.model.proofs.TallyLaws.{total-append}
use Rattle.lists.specs.Cover.{within, loads_at, stores_at}
use Rattle.lists.specs.Sizes.{Core}
use Rattle.lists.proofs.Ranges.{rising, within_adjacent, within_none}
use Rattle.lists.proofs.Cursors.{cursor_room, cursor_start}
use Rattle.lists.proofs.Blocks.{block_once, block_never}
use Rattle.lists.proofs.Filled.{fill_block}
use Rattle.lists.proofs.Walked.{along_walk}
use Rattle.lists.proofs.Walks.{walk_loads, walk_stores}

-- What a walk covers, from nothing done to all done.
all_covered : (up : Bool) (a n x t : ℕ) → within (chunk up (cursor up a n) 0) 0 x + t ≡ within (chunk up (cursor up a n) n) n x
    → t ≡ within a n x
all_covered up a n x t e =
    omega (arith, within_none (chunk up (cursor up a n) 0) x, ap (λ (b : ℕ). within b n x) (cursor_start up a n))

-- Copy and move load each source byte once, and no other byte.
pub loads_once : {W : ℕ} → Core W → (up : Bool) (dest src n x : ℕ)
    → total (loads_at x) (along up W dest src n) ≡ within src n x
loads_once {W} p up dest src n x =
    all_covered up src n x (total (loads_at x) (along up W dest src n))
    (walk_loads x (cursor_room up src n) (along_walk p up dest src n))

-- Copy and move store each destination byte once, and no other byte.
pub stores_once : {W : ℕ} → Core W → (up : Bool) (dest src n x : ℕ)
    → total (stores_at x) (along up W dest src n) ≡ within dest n x
stores_once {W} p up dest src n x =
    all_covered up dest n x (total (stores_at x) (along up W dest src n))
    (walk_stores x (cursor_room up dest n) (along_walk p up dest src n))

-- A fill stores each byte once, and no other byte.
pub fill_stores_once : {W : ℕ} → Core W → (s n x : ℕ) → total (stores_at x) (fill_list W s n) ≡ within s n x
fill_stores_once p s n x = block_once (stores_at x) x (λ w a. refl) (fill_block p s n)

-- A fill loads nothing.
pub fill_loads_none : {W : ℕ} → Core W → (s n x : ℕ) → total (loads_at x) (fill_list W s n) ≡ 0
fill_loads_none p s n x = block_never (loads_at x) (λ w a. refl) (fill_block p s n)

-- ---- compare and string length

-- Turn by turn, a total grows by what the turn counts for.
upto-total : (c : Access → ℕ) (f : ℕ → List Access) (sum : ℕ → ℕ) → sum 0 ≡ 0
    → ((i : ℕ) → sum (suc i) ≡ sum i + total c (f i)) → (n : ℕ) → total c (upto n f) ≡ sum n
unfolding upto total
upto-total c f sum p q zero = sym p
upto-total c f sum p q (suc n) = omega (arith, total-append c (upto n f) (f n), upto-total c f sum p q n, q n)

one_more : (a i x : ℕ) → within a (suc i) x ≡ within a i x + within (a + i) 1 x
one_more a i x = sym (within_adjacent x (rising refl refl (omega arith)))

-- Compare loads each byte of both ranges once up to and with the first unequal pair, and no other byte.
pub compare_loads_once : (a b n p x : ℕ)
    → total (loads_at x) (compare_list a b n p) ≡ within a (min (suc p) n) x + within b (min (suc p) n) x
unfolding compare_list total
compare_loads_once a b n p x =
    upto-total (loads_at x) (λ i. load 1 (a + i) ∷ load 1 (b + i) ∷ []) (λ i. within a i x + within b i x)
    (omega (arith, within_none a x, within_none b x)) (λ i. omega (arith, one_more a i x, one_more b i x)) (min (suc p) n)

-- String length loads each byte once up to and with the first zero, and no other byte.
pub string_loads_once : (s m p x : ℕ) → total (loads_at x) (string_list s m p) ≡ within s (min (suc p) m) x
unfolding string_list total
string_loads_once s m p x =
    upto-total (loads_at x) (λ i. load 1 (s + i) ∷ []) (λ i. within s i x) (within_none s x) (λ i. omega (arith, one_more s i x))
    (min (suc p) m)

-- Compare stores nothing.
pub compare_stores_none : (a b n p x : ℕ) → total (stores_at x) (compare_list a b n p) ≡ 0
unfolding compare_list total
compare_stores_none a b n p x =
    upto-total (stores_at x) (λ i. load 1 (a + i) ∷ load 1 (b + i) ∷ []) (λ i. 0) refl (λ i. refl) (min (suc p) n)

-- String length stores nothing.
pub string_stores_none : (s m p x : ℕ) → total (stores_at x) (string_list s m p) ≡ 0
unfolding string_list total
string_stores_none s m p x = upto-total (stores_at x) (λ i. load 1 (s + i) ∷ []) (λ i. 0) refl (λ i. refl) (min (suc p) m)
