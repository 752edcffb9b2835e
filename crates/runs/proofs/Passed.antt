-- Compare and string length, while they go on: the test has failed at every place that was passed, and the accesses of these places are
-- made. From there: one place more, the place where it holds, and the end with none.
-- Assumes nothing.
use mathlib.Core.Path.{◌≡◌, refl, sym, ap, ap₂, ◌∙◌, fun_ext}
use mathlib.Core.Bool.{Bool, true, false, not}
use mathlib.Core.List.{List, [], ◌∷◌}
use Prim.Native.Nat.{ℕ, zero, suc, ◌+◌, ◌*◌, ◌^◌, ◌<◌, ◌≤◌, min}
use native.Mathlib.Nat.{min-eq_left, min-eq_right}
use native.Mathlib.Numerals.{add-one}
use native.Mathlib.Omega.{arith}
use lib.Dec.{eqb}
use lib.IntN.{ℤ, pos, ◌-ℤ◌}
use lib.ListN.{length}
use borrow.Author.Count.{below_more}
use borrow.Author.Tests.{eq-eqb, ne_eqb, lt-ltb, le-ltb}
use Rattle.model.specs.declared.Log.{Log}
use Rattle.model.specs.declared.Work.{Work}
use Rattle.model.specs.Access.{Access, load}
use Rattle.model.specs.Lists.{upto, compare_list, string_list}
use Rattle.model.specs.Meaning.{first, unequal, difference, differ_at, memcmp, is_null, strlen}
use Rattle.model.specs.Memory.{read_le}
use Rattle.runs.specs.Ran.{Found}
use Rattle.model.specs.Log.{Recorded}
use Rattle.model.specs.Tally.{total, tally, joined, Joinable}
use Rattle.model.proofs.ByteLaws.{read_le_one}
use Rattle.model.proofs.LogLaws.{recorded_none, recorded_then, recorded_joinable}
use Rattle.model.proofs.TallyLaws.{tally-append}
use Rattle.model.proofs.FirstLaws.{first_exists, first_unique}
use Rattle.lists.proofs.Lengths.{upto-length}

-- i of n places are passed: the test t fails at each, and the accesses f of each are made.
pub record Passed (t : ℕ → Bool) (f : ℕ → List Access) (n i : ℕ) (g g' : Log) (work : Work) : Type 0 where
  pub bound : i ≤ n
  pub before : (j : ℕ) → j < i → t j ≡ false
  pub recorded : Recorded (upto i f) g g' work

-- The place where it stopped, and the accesses up to and with it.
pub record Stopped (t : ℕ → Bool) (f : ℕ → List Access) (n p : ℕ) (g g' : Log) (work : Work) : Type 0 where
  pub place : first t n ≡ p
  pub recorded : Recorded (upto (min (suc (first t n)) n) f) g g' work

module _ {t : ℕ → Bool} {f : ℕ → List Access} {n : ℕ} where
  pub passed_none : {g : Log} {a : Work} → a ≡ tally [] → Passed t f n 0 g g a
  unfolding upto
  passed_none e = record { bound = omega arith; before = λ j l. absurd (omega arith); recorded = recorded_none e }

  one_more : {i : ℕ} {g g' g'' : Log} {a b c : Work} → Passed t f n i g g' a → Recorded (f i) g' g'' b → c ≡ joined a b
      → Recorded (upto (suc i) f) g g'' c
  unfolding upto
  one_more p e j = recorded_then p.recorded e j

  pub passed_more : {i : ℕ} {g g' g'' : Log} {a b c : Work} → Passed t f n i g g' a → i < n → t i ≡ false → Recorded (f i) g' g'' b
      → c ≡ joined a b → Passed t f n (i + 1) g g'' c
  passed_more {i} p l h e j = record {
    bound = omega arith;
    before = below_more (λ (k : ℕ). t k ≡ false) i p.before h;
    recorded = rw (add-one i) (one_more p e j);
  }

  pub passed_here : {i : ℕ} {g g' g'' : Log} {a b c : Work} → Passed t f n i g g' a → i < n → t i ≡ true → Recorded (f i) g' g'' b
      → c ≡ joined a b → Stopped t f n i g g'' c
  passed_here {i} p l h e j = record { place = here; recorded = rw (here, min-eq_left {n = suc i} {m = n} l) (one_more p e j) }
    where
      here : first t n ≡ i
      here = first_unique t n (first t n) i (first_exists t n) record { bound = p.bound; before = p.before; holds = λ m. h }

  pub passed_all : {i : ℕ} {g g' : Log} {a : Work} → Passed t f n i g g' a → n ≤ i → Stopped t f n n g g' a
  passed_all {i} p l = record { place = none; recorded = rw (none, min-eq_right {n = n} {m = suc n} (omega arith), ← all) p.recorded }
    where
      all : i ≡ n
      all = omega (arith, p.bound)

      none : first t n ≡ n
      none = first_unique t n (first t n) n (first_exists t n)
          record { bound = omega arith; before = λ j m. p.before j (omega arith); holds = λ m. absurd (omega arith) }

-- The records can be joined where each place takes w accesses.
pub passed_joinable : {t : ℕ → Bool} {n i : ℕ} {g g' g'' : Log} {a b : Work} (w : ℕ) (f : ℕ → List Access) → ((j : ℕ) → length (f j) ≡ w)
    → Passed t f n i g g' a → Recorded (f i) g' g'' b → w * i + w < 2 ^ 64 → Joinable a b
passed_joinable {i = i} w f h p e l = recorded_joinable p.recorded e (omega (arith, upto-length w i f h, h i))

-- ---- compare

abbrev pub pair_at : ℕ → ℕ → ℕ → List Access
pair_at s1 s2 i = load 1 (s1 + i) ∷ load 1 (s2 + i) ∷ []

-- The pair at place i is loaded, and is x and y.
pub record PairLoaded (f : ℕ → ℕ) (s1 s2 i x y : ℕ) (g g' : Log) (work : Work) : Type 0 where
  pub first : x ≡ f (s1 + i)
  pub second : y ≡ f (s2 + i)
  pub recorded : Recorded (pair_at s1 s2 i) g g' work

pub pair_loaded : {x y : ℕ} {g g' g'' : Log} {a b c : Work} (f : ℕ → ℕ) (s1 s2 i : ℕ)
    → Found (read_le f (s1 + i) 1) (load 1 (s1 + i) ∷ []) g g' x a → Found (read_le f (s2 + i) 1) (load 1 (s2 + i) ∷ []) g' g'' y b
    → c ≡ joined a b → PairLoaded f s1 s2 i x y g g'' c
pair_loaded f s1 s2 i p q j = record {
  first = p.found ∙ read_le_one f (s1 + i);
  second = q.found ∙ read_le_one f (s2 + i);
  recorded = recorded_then p.recorded q.recorded j;
}

module _ {f : ℕ → ℕ} {s1 s2 n i x y : ℕ} {g g' g'' : Log} {a b c : Work} where
  pub pair_equal : Passed (unequal s1 s2 f) (pair_at s1 s2) n i g g' a → i < n → PairLoaded f s1 s2 i x y g' g'' b → x ≡ y
      → c ≡ joined a b → Passed (unequal s1 s2 f) (pair_at s1 s2) n (i + 1) g g'' c
  pair_equal p l r e j = passed_more p l (rw (← r.first, ← r.second) (ap not (eq-eqb x y e))) r.recorded j

  -- It stops at a pair that differs.
  pub pair-unequal : {z : ℤ} → Passed (unequal s1 s2 f) (pair_at s1 s2) n i g g' a → i < n → PairLoaded f s1 s2 i x y g' g'' b → (x ≡ y → ⊥)
      → c ≡ joined a b → z ≡ pos x -ℤ pos y → Found (memcmp s1 s2 n f) (compare_list s1 s2 n (difference s1 s2 n f)) g g'' z c
  unfolding memcmp compare_list
  pair-unequal p l r e j h = record {
    found = h ∙ ap₂ (λ (u v : ℕ). pos u -ℤ pos v) r.first r.second ∙ sym (ap (differ_at s1 s2 n f) stop.place ∙ simp (lt-ltb i n l));
    recorded = stop.recorded;
  }
    where
      stop : Stopped (unequal s1 s2 f) (pair_at s1 s2) n i g g'' c
      stop = passed_here p l (rw (← r.first, ← r.second) (ap not (ne_eqb x y e))) r.recorded j

-- It meets no such pair.
pub none_unequal : {n i : ℕ} {z : ℤ} {g g' : Log} {a : Work} (f : ℕ → ℕ) (s1 s2 : ℕ)
    → Passed (unequal s1 s2 f) (pair_at s1 s2) n i g g' a → n ≤ i → z ≡ pos 0
    → Found (memcmp s1 s2 n f) (compare_list s1 s2 n (difference s1 s2 n f)) g g' z a
unfolding memcmp compare_list
none_unequal {n} f s1 s2 p l h =
    let stop = passed_all p l in
    record {
      found = h ∙ sym (ap (differ_at s1 s2 n f) stop.place ∙ simp (le-ltb n n (omega arith)));
      recorded = stop.recorded;
    }

-- ---- string length

abbrev pub byte_at : ℕ → ℕ → List Access
byte_at s i = load 1 (s + i) ∷ []

module _ {n i x : ℕ} {g g' g'' : Log} {a b c : Work} (f : ℕ → ℕ) (s : ℕ) where
  pub byte_more : Passed (is_null s f) (byte_at s) n i g g' a → i < n → Found (read_le f (s + i) 1) (byte_at s i) g' g'' x b → (x ≡ 0 → ⊥)
      → c ≡ joined a b → Passed (is_null s f) (byte_at s) n (i + 1) g g'' c
  byte_more p l r h j = passed_more p l (rw (← read_le_one f (s + i), ← r.found) (ne_eqb x 0 h)) r.recorded j

  pub zero_here : Passed (is_null s f) (byte_at s) n i g g' a → i < n → Found (read_le f (s + i) 1) (byte_at s i) g' g'' x b → x ≡ 0
      → c ≡ joined a b → Stopped (is_null s f) (byte_at s) n i g g'' c
  zero_here p l r h j = passed_here p l (rw (← read_le_one f (s + i), ← r.found) (eq-eqb x 0 h)) r.recorded j

-- The list up to the first zero.
pub string_recorded : {n p : ℕ} {g g' : Log} {a : Work} (f : ℕ → ℕ) (s : ℕ) → Stopped (is_null s f) (byte_at s) n p g g' a
    → Recorded (string_list s n (strlen s n f)) g g' a
unfolding string_list
string_recorded f s p = p.recorded

-- A scan of the words from some word on: the same bytes at other addresses have their zero at the same place, and it costs the same.
pub strlen_moved : (f g : ℕ → ℕ) (s s' m : ℕ) → ((j : ℕ) → f (s + j) ≡ g (s' + j)) → strlen s m f ≡ strlen s' m g
strlen_moved f g s s' m h = ap (λ (t : ℕ → Bool). first t m) (fun_ext (λ j. ap (λ (x : ℕ). eqb x 0) (h j)))

-- A record says nothing of the address.
one_moved : (w a a' : ℕ) → tally (load w a ∷ []) ≡ tally (load w a' ∷ [])
unfolding tally total
one_moved w a a' = refl

bytes_moved : (s s' n : ℕ) → tally (upto n (byte_at s)) ≡ tally (upto n (byte_at s'))
unfolding upto
bytes_moved s s' zero = refl
bytes_moved s s' (suc n) =
    tally-append (upto n (byte_at s)) (byte_at s n) ∙ ap₂ joined (bytes_moved s s' n) (one_moved 1 (s + n) (s' + n))
    ∙ sym (tally-append (upto n (byte_at s')) (byte_at s' n))

pub string_moved : (s s' m p : ℕ) → tally (string_list s m p) ≡ tally (string_list s' m p)
unfolding string_list
string_moved s s' m p = bytes_moved s s' (min (suc p) m)
