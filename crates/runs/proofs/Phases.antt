-- Head, words and tail in a row, or bytes alone: what a copy has done when its tail is left, and that the tail makes it whole. Over the
-- direction.
-- Assumes nothing.
use mathlib.Core.Path.{◌≡◌, refl, sym, ap, ◌∙◌}
use mathlib.Core.Bool.{Bool, true}
use mathlib.Core.List.{List, [], ◌++◌}
use Prim.Native.Nat.{ℕ, ◌+◌, ◌*◌, ◌-◌, ◌/◌, ◌%◌, ◌^◌, ◌<◌, ◌≤◌}
use native.Mathlib.Nat.{div-add-mod, div-le_self, div-one, mul-div_cancel_left}
use native.Mathlib.Omega.{arith}
use lib.ListN.{length, length-append}
use borrow.Author.Tests.{lt-ltb, le-ltb, eq-eqb, ne_eqb}
use Rattle.model.specs.declared.Work.{Work}
use Rattle.model.specs.Access.{Access}
use Rattle.runs.specs.Asked.{Both}
use Rattle.model.specs.Fit.{Range}
use Rattle.model.specs.Lists.{cursor, past, pairs, misaligned, near, whole_words, threshold, head, phases, run, along, stores, fill_phases, fill_list}
use Rattle.model.specs.Perform.{moving, filling}
use Rattle.runs.specs.Ran.{Lent, Ran}
use Rattle.model.specs.Tally.{tally, joined, Joinable}
use Rattle.runs.proofs.RanLaws.{ran_none, ran_then, ran_together}
use Rattle.model.proofs.TallyLaws.{joinable}
use Rattle.lists.specs.Sizes.{Core}
use Rattle.runs.proofs.Asking.{level, level_start}
use Rattle.model.proofs.LogLaws.{recorded_then, recorded_joinable}
use Rattle.lists.proofs.Bounds.{whole_words_few, fill_few}
use Rattle.lists.proofs.Lengths.{pairs-length, stores-length}
use Rattle.lists.proofs.Cores.{core_some, split}
use Rattle.lists.proofs.Cursors.{past-past}

-- ---- the words

module _ {W : ℕ} {give : (ℕ → ℕ) → ℕ → ℕ} {z z' : Lent} {a : Work} (up : Bool) (d s w : ℕ) where
  pub words_aligned : s % W ≡ 0 → Ran W give (pairs up W d s w) z z' a → Ran W give (whole_words up W d s w) z z' a
  unfolding whole_words
  words_aligned e r = rw (eq-eqb (s % W) 0 e) r

  pub words_misaligned : 0 < s % W → Ran W give (misaligned up W d s (near up W (s % W)) (w - 1)) z z' a
      → Ran W give (whole_words up W d s w) z z' a
  unfolding whole_words
  words_misaligned l r = rw (ne_eqb (s % W) 0 (λ e. omega arith)) r

-- ---- the parts of a copy

-- n bytes, at the threshold or above it: a head of h bytes, m bytes of words, a tail of t bytes.
pub record Parts (up : Bool) (W d n h m t : ℕ) : Type 0 where
  pub long : threshold W ≤ n
  pub first : h ≡ head up W d
  pub count : m / W ≡ (n - h) / W
  pub words : W * (m / W) ≡ m
  pub some : 0 < m / W
  pub last : t ≡ (n - h) % W
  pub sum : h + m + t ≡ n

pub parts : {W : ℕ} → Core W → (up : Bool) (d n : ℕ) → threshold W ≤ n
    → let h = head up W d in let m = n - h - (n - h) % W in Parts up W d n h m (n - h - m)
parts {W} p up d n l =
    let h = head up W d in
    let s = split p up d n l in
    let whole : n - h - (n - h) % W ≡ W * ((n - h) / W) = omega (arith, div-add-mod (n - h) W) in
    let count : (n - h - (n - h) % W) / W ≡ (n - h) / W = ap (λ (x : ℕ). x / W) whole ∙ mul-div_cancel_left ((n - h) / W) (core_some p) in
    record {
      long = l;
      first = refl;
      count = count;
      words = ap (λ (x : ℕ). W * x) count ∙ sym whole;
      some = rw count s.words;
      last = omega (arith, div-add-mod (n - h) W);
      sum = omega (arith, div-add-mod (n - h) W, s.sum);
    }

-- Below the threshold all n bytes are copied one by one.
pub short_done : {W n d s : ℕ} {z z' : Lent} {a : Work} (up : Bool) (dest src : ℕ) → n < threshold W → d ≡ cursor up dest n
    → s ≡ cursor up src n → Ran W (moving d s) (pairs up 1 d s (n / 1)) z z' a → Ran W (moving dest src) (along up W dest src n) z z' a
unfolding along run
short_done {W} {n} {d} {s} up dest src l i j r =
    rw (lt-ltb n (threshold W) l, ← i, ← j) (ran_together d s dest src (rw (i, j) (level_start up dest src n)) (rw (div-one n) at r))

-- At the threshold and above it they are the three parts. The records can be joined: a copy has at most two accesses for each byte.
module _ {W n d h m t : ℕ} {z z' z'' : Lent} {a b : Work} (core : Core W) (up : Bool) (s d₁ s₁ : ℕ) (p : Parts up W d n h m t)
    (first : Ran W (moving d s) (pairs up 1 d s (h / 1)) z z' a)
    (words : Ran W (moving d₁ s₁) (whole_words up W d₁ s₁ (m / W)) z' z'' b) where
  pub words_joinable : n < 2 ^ 62 → Joinable a b
  words_joinable few =
      recorded_joinable first.recorded words.recorded
      (omega (
        arith,
        pairs-length up 1 d s (h / 1),
        div-one h,
        whole_words_few core up d₁ s₁ (m / W) p.some,
        p.words,
        p.sum,
      ))

  module _ {z₃ : Lent} {c e : Work} (d₂ s₂ : ℕ) (q : c ≡ joined a b) (last : Ran W (moving d₂ s₂) (pairs up 1 d₂ s₂ (t / 1)) z'' z₃ e) where
    pub tail_joinable : n < 2 ^ 62 → Joinable c e
    tail_joinable few =
        recorded_joinable (recorded_then first.recorded words.recorded q) last.recorded
        (omega (
          arith,
          length-append (pairs up 1 d s (h / 1)) (whole_words up W d₁ s₁ (m / W)),
          pairs-length up 1 d s (h / 1),
          div-one h,
          whole_words_few core up d₁ s₁ (m / W) p.some,
          p.words,
          p.sum,
          pairs-length up 1 d₂ s₂ (t / 1),
          div-one t,
        ))

    pub long_done : {f : Work} (dest src : ℕ) → Both up W (length z.words) d s n → d ≡ cursor up dest n → s ≡ cursor up src n
        → d₁ ≡ past up d h → s₁ ≡ past up s h → d₂ ≡ past up d₁ m → s₂ ≡ past up s₁ m → f ≡ joined c e
        → Ran W (moving dest src) (along up W dest src n) z z₃ f
    unfolding along run phases
    long_done dest src both x y i j k l f =
        rw (le-ltb n (threshold W) p.long, ← x, ← y, ← p.first, ← p.count, ← p.last, ← i, ← j, p.words, ← k, ← l)
        (ran_together d s dest src start
        (ran_then
        (ran_then (rw (div-one h) at first) (ran_together d₁ s₁ d s (rw (i, j) (level up h both (omega (arith, p.sum)))) words) q)
        (ran_together d₂ s₂ d s (rw (k, l, i, j, past-past up d h m, past-past up s h m) (level up (h + m) both (omega (arith, p.sum))))
        (rw (div-one t) at last)) f))
      where
        start : d + src ≡ s + dest
        start = rw (x, y) (level_start up dest src n)

-- ---- the parts of a fill

-- n' bytes are left from s' on, and they are the tail.
pub record FillBegun (W b s n s' n' : ℕ) (z z' : Lent) (work : Work) : Type 0 where
  pub done : List Access
  pub ran : Ran W (filling b) done z z' work
  pub rest : fill_list W s n ≡ done ++ stores 1 s' n'
  pub ahead : Range W (length z'.words) s' n'

pub fill_short : {W b s n : ℕ} {z : Lent} {a : Work} → n < threshold W → Range W (length z.words) s n → a ≡ tally []
    → FillBegun W b s n s n z z a
unfolding fill_list
fill_short {n = n} l r e = record { done = []; ran = ran_none e; rest = simp (lt-ltb n _ l); ahead = r }

pub fill_long : {W b s n h m t s₁ s₂ : ℕ} {z z' z'' : Lent} {a e c : Work} → Parts true W s n h m t
    → Range W (length z.words) s n → s₁ ≡ s + h → s₂ ≡ s₁ + m → Ran W (filling b) (stores 1 s h) z z' a
    → Ran W (filling b) (stores W s₁ (m / W)) z' z'' e → c ≡ joined a e → FillBegun W b s n s₂ t z z'' c
unfolding fill_list fill_phases
fill_long {W} {b} {s} {n} {h} {m} {t} {s₁} {z = z} {z'' = z''} {c = c} p r i k q v j = record {
  done = stores 1 s h ++ stores W s₁ (m / W);
  ran = all;
  rest = rw (le-ltb n (threshold W) p.long, ← p.first, ← p.count, ← p.last, ← i, p.words, ← k) refl;
  ahead = rw all.size record { few = r.few; inside = omega (arith, r.inside, p.sum) };
}
  where
    all : Ran W (filling b) (stores 1 s h ++ stores W s₁ (m / W)) z z'' c
    all = ran_then q v j

pub fill_phases_joinable : {W s n h m t : ℕ} {a b : Work} → Core W → (s₁ : ℕ) → Parts true W s n h m t → n < 2 ^ 62
    → a ≡ tally (stores 1 s h) → b ≡ tally (stores W s₁ (m / W)) → Joinable a b
fill_phases_joinable {W} {s} {h = h} {m} core s₁ p few r q =
    joinable (stores 1 s h) (stores W s₁ (m / W)) r q
    (omega (
      arith,
      stores-length 1 s h,
      stores-length W s₁ (m / W),
      p.sum,
      div-le_self m W,
    ))

pub fill_done : {W b s n s' n' : ℕ} {z z' z'' : Lent} {a e c : Work} → FillBegun W b s n s' n' z z' a
    → Ran W (filling b) (stores 1 s' n') z' z'' e → c ≡ joined a e → Ran W (filling b) (fill_list W s n) z z'' c
fill_done p r j = rw p.rest (ran_then p.ran r j)

pub fill_joinable : {W b s n s' n' : ℕ} {z z' : Lent} {a e : Work} → Core W → (p : FillBegun W b s n s' n' z z' a)
    → e ≡ tally (stores 1 s' n') → n < 2 ^ 62 → Joinable a e
fill_joinable {W} {s = s} {n} {s'} {n'} core p r few =
    joinable p.done (stores 1 s' n') p.ran.recorded.counted r
    (omega (arith, fill_few core s n, ap length p.rest, length-append p.done (stores 1 s' n')))
