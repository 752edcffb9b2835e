-- Misaligned words: each word that is stored lies across two words of the source. One of them is held from the turn before, and the
-- other is loaded, whole or in part. All of these turns, in both directions, are one law, `across`, in two forms.
-- Assumes nothing.
use mathlib.Core.Path.{◌≡◌, refl, sym, ap, subst, ◌∙◌}
use mathlib.Core.Bool.{Bool, true, false, not}
use mathlib.Core.List.{List, [], ◌∷◌, ◌++◌}
use Prim.Native.Nat.{ℕ, ◌+◌, ◌*◌, ◌-◌, ◌%◌, ◌^◌, ◌<◌, ◌≤◌}
use native.Mathlib.Nat.{add-mod_right, add-zero, mod_self, mul-zero, mul-one}
use native.Mathlib.Decide.{dec_lt}
use native.Mathlib.Omega.{arith}
use lib.ListN.{length, length-append}
use Rattle.model.specs.declared.Log.{Log}
use Rattle.model.specs.declared.Work.{Work}
use Rattle.model.specs.Access.{Access, load, store}
use Rattle.runs.specs.Asked.{Across}
use Rattle.model.specs.Lists.{chunk, past, front_partial, end_partial}
use Rattle.model.specs.Memory.{byte, view, read_le, over, laid}
use Rattle.model.specs.Perform.{State, perform, moving}
use Rattle.runs.specs.Ran.{Lent, lent, Carried, Anything, Holds, Pending, Found, PartFound, Stored, part, ordered}
use Rattle.model.specs.Log.{Recorded}
use Rattle.model.specs.Tally.{joined, Joinable}
use Rattle.model.proofs.ByteLaws.{byte_high, pow_256, read_le-byte}
use Rattle.model.proofs.MemoryLaws.{over_in, over_below, over_above, over_cong, view_lt, view_word}
use Rattle.runs.proofs.RanLaws.{ran_then, ran_weaker}
use Rattle.runs.proofs.Asking.{ahead_room, next_room, next_boundary}
use Rattle.model.proofs.LogLaws.{recorded_joinable}
use Rattle.lists.specs.Sizes.{Core}
use Rattle.lists.proofs.Blocks.{Block, aligned, resized, single, loads_performed}
use Rattle.lists.proofs.Cursors.{Room, room_less}
use Rattle.lists.proofs.Lengths.{lead_few}
use Rattle.lists.proofs.Partial.{lead_block, trail_block}

-- ---- what was loaded of a word

-- Of the word at c, the bytes from byte lo on and below byte hi were loaded, by xs, and stand at their places in the number v.
record Taken (W : ℕ) (ws : List ℕ) (c lo hi v : ℕ) (xs : List Access) (g g' : Log) (work : Work) : Type 0 where
  order : lo ≤ hi
  block : Block W load xs (c + lo) (hi - lo)
  bytes : Holds c lo hi v (view W ws)
  recorded : Recorded xs g g' work

number_bytes : (W : ℕ) (ws : List ℕ) (c n : ℕ) {v : ℕ} → v ≡ read_le (view W ws) c n → Holds c 0 n v (view W ws)
number_bytes W ws c n e j lo hi =
    sym (ap (λ (x : ℕ). byte x j) e ∙ read_le-byte (view W ws) (view_lt W ws) c n j hi)

-- All of it.
whole_taken : {W : ℕ} {ws : List ℕ} {c v : ℕ} {g g' : Log} {a : Work} → c % W ≡ 0
    → Found (read_le (view W ws) c W) (load W c ∷ []) g g' v a → Taken W ws c 0 W v (load W c ∷ []) g g' a
whole_taken {W} {ws} {c} p r = record {
  order = omega arith;
  block = resized (single load c (aligned (mod_self W) p)) (omega arith) (omega arith);
  bytes = number_bytes W ws c W r.found;
  recorded = r.recorded;
}

-- A part of it, as the partial loads give it: its front stands at the front of the number, its end at the end.
module _ {end : Bool} {W o b v : ℕ} {ws : List ℕ} {g g' : Log} {a : Work} where
  pub front_found : end ≡ false → Found (read_le (view W ws) b o) (front_partial b o) g g' v a → PartFound end W o b ws g g' v a
  front_found e r = rw e record { bytes = number_bytes W ws b o r.found; recorded = r.recorded }

  pub end_found : end ≡ true → o < W
      → Found (read_le (view W ws) (b + (W - (W - o))) (W - o) * 256 ^ (W - (W - o))) (end_partial (b + (W - (W - o))) (W - o)) g g' v a
      → PartFound end W o b ws g g' v a
  end_found e l r = rw e record {
    bytes = λ j lo hi. sym (ap (λ (x : ℕ). byte x j) (found.found ∙ sym (add-zero _)) ∙ at j lo hi);
    recorded = found.recorded;
  }
    where
      found : Found (read_le (view W ws) (b + o) (W - o) * 256 ^ o) (end_partial (b + o) (W - o)) g g' v a
      found =
          let first : W - (W - o) ≡ o = omega arith in
          rw first at r

      at : (j : ℕ) → o ≤ j → j < W → byte (read_le (view W ws) (b + o) (W - o) * 256 ^ o + 0) j ≡ view W ws (b + j)
      at j lo hi =
          let place : j ≡ o + (j - o) = omega arith in
          ap (byte (read_le (view W ws) (b + o) (W - o) * 256 ^ o + 0)) place
          ∙ byte_high (read_le (view W ws) (b + o) (W - o)) o 0 (j - o) (pow_256 o)
          ∙ read_le-byte (view W ws) (view_lt W ws) (b + o) (W - o) (j - o) (omega arith)
          ∙ ap (view W ws) (omega arith)

abbrev from_byte : Bool → ℕ → ℕ
from_byte true o = o
from_byte false o = 0

abbrev to_byte : Bool → ℕ → ℕ → ℕ
to_byte true W o = W
to_byte false W o = o

part_taken : {W b o v : ℕ} {ws : List ℕ} {g g' : Log} {a : Work} → Core W → (end : Bool) → b % W ≡ 0 → 0 < o → o < W
    → PartFound end W o b ws g g' v a → Taken W ws b (from_byte end o) (to_byte end W o) v (part end W b o) g g' a
part_taken {W} {b} {o} core true e s l r = record {
  order = omega arith;
  block = lead_block core true (b + o) (W - o) (omega arith) boundary;
  bytes = r.bytes;
  recorded = r.recorded;
}
  where
    boundary : (b + o + (W - o)) % W ≡ 0
    boundary =
        let next : b + o + (W - o) ≡ b + W = omega arith in
        rw (next, add-mod_right b W) e
part_taken {W} {b} {o} core false e s l r = record {
  order = omega arith;
  block = resized (trail_block core true b o l tt e) (omega arith) (omega arith);
  bytes = r.bytes;
  recorded = r.recorded;
}

-- ---- what is held

module _ {W : ℕ} {give : (ℕ → ℕ) → ℕ → ℕ} {ws : List ℕ} {c lo hi v : ℕ} {xs : List Access} {g g' : Log} {a : Work} where
  -- What was loaded is held, and what was held of other bytes still is.
  taken_lent : (kept : (ℕ → ℕ) → Type 0)
      → ((held : ℕ → ℕ) → kept held → kept (over (c + lo) (hi - lo) (view W ws) held)) → Taken W ws c lo hi v xs g g' a
      → Carried W give kept xs (λ held. kept held × Holds c lo hi v held) (lent ws g) (lent ws g') a
  taken_lent kept keeps t = record {
    size = refl;
    performed = λ held h. ap (λ (x : State). x.bytes) (loads_performed give t.block (from held));
    holding = λ held h.
        subst (λ (x : State). kept x.held × Holds c lo hi v x.held) (sym (loads_performed give t.block (from held)))
        (keeps held h, λ j l m. over_in (c + lo) (hi - lo) (view W ws) held (c + j) (omega arith) (omega (arith, t.order)) ∙ t.bytes j l m);
    recorded = t.recorded;
  }
    where
      from : (ℕ → ℕ) → State
      from held = record { bytes = view W ws; held = held }

  taken_first : Taken W ws c lo hi v xs g g' a → Carried W give Anything xs (Holds c lo hi v) (lent ws g) (lent ws g') a
  taken_first t = ran_weaker (λ held h. h) (λ held h. h.1) (taken_lent Anything (λ held h. h) t)

  -- Bytes below what is loaded, and bytes above.
  taken_above : (b from to u : ℕ) → b + to ≤ c + lo → Taken W ws c lo hi v xs g g' a
      → Carried W give (Holds b from to u) xs (λ held. Holds b from to u held × Holds c lo hi v held) (lent ws g) (lent ws g') a
  taken_above b from to u l t =
      taken_lent (Holds b from to u)
      (λ held h j i m. over_below (c + lo) (hi - lo) (view W ws) held (b + j) (omega arith) ∙ h j i m) t

  taken_below : (b from to u : ℕ) → c + hi ≤ b + from → Taken W ws c lo hi v xs g g' a
      → Carried W give (Holds b from to u) xs (λ held. Holds b from to u held × Holds c lo hi v held) (lent ws g) (lent ws g') a
  taken_below b from to u l t =
      taken_lent (Holds b from to u)
      (λ held h j i m. over_above (c + lo) (hi - lo) (view W ws) held (b + j) (omega (arith, t.order)) ∙ h j i m) t

-- A part is loaded, and still to be stored.
pub part_carried : {W b o v : ℕ} {ws : List ℕ} {give : (ℕ → ℕ) → ℕ → ℕ} {g g' : Log} {a : Work} → Core W → (end : Bool) → b % W ≡ 0
    → 0 < o → o < W → PartFound end W o b ws g g' v a
    → Carried W give Anything (part end W b o) (Pending end W o b v) (lent ws g) (lent ws g') a
part_carried core true e s l r = taken_first (part_taken core true e s l r)
part_carried core false e s l r = taken_first (part_taken core false e s l r)

-- ---- a word across two

-- The W bytes from byte o of the word at b on are held, and stored.
straddle_stored : {W : ℕ} {post : (ℕ → ℕ) → Type 0} {z z' : Lent} {d r : ℕ} {e : Work} (b o low high dest src : ℕ) → o ≤ W
    → d + src ≡ b + o + dest → r ≡ read_le (view W (low ∷ high ∷ [])) o W → ((held : ℕ → ℕ) → post held → Holds b o W low held)
    → ((held : ℕ → ℕ) → post held → Holds (b + W) 0 o high held) → Stored W W d r z z' e
    → Carried W (moving dest src) post (store W d ∷ []) post z z' e
unfolding perform
straddle_stored {W} {post} {z} {z'} {d} {r} b o low high dest src l at re lows highs q = record {
  size = q.size;
  performed = λ held h. over_cong d W (λ x. held ((x + src) - dest)) (laid r d) (view W z.words) (same held h) ∙ sym q.bytes;
  holding = λ held h. h;
  recorded = q.recorded;
}
  where
    word : (j : ℕ) → j < W → byte r j ≡ view W (low ∷ high ∷ []) (o + j)
    word j m =
        ap (λ (x : ℕ). byte x j) re
        ∙ read_le-byte (view W (low ∷ high ∷ [])) (view_lt W (low ∷ high ∷ [])) o W j m

    either : (held : ℕ → ℕ) → post held → (j : ℕ) → j < W → Dec (o + j < W) → held (b + (o + j)) ≡ view W (low ∷ high ∷ []) (o + j)
    either held h j m (yes i) =
        lows held h (o + j) (omega arith) i
        ∙ sym (ap (view W (low ∷ high ∷ [])) (omega (arith, mul-zero W)) ∙ view_word W (low ∷ high ∷ []) 0 (o + j) i)
    either held h j m (no i) =
        ap held (omega arith) ∙ highs held h (o + j - W) (omega arith) (omega arith)
        ∙ sym (ap (view W (low ∷ high ∷ [])) (omega (arith, mul-one W)) ∙ view_word W (low ∷ high ∷ []) 1 (o + j - W) (omega arith))

    same : (held : ℕ → ℕ) → post held → (x : ℕ) → d ≤ x → x < d + W → held ((x + src) - dest) ≡ laid r d x
    same held h x m n =
        ap held (omega arith) ∙ either held h (x - d) (omega arith) (dec_lt (o + (x - d)) W) ∙ sym (word (x - d) (omega arith))

-- What is loaded of the next word, from byte lo to byte hi, has all that is wanted of it.
abbrev Wanted : Bool → ℕ → ℕ → ℕ → ℕ → Type 0
Wanted true W o lo hi = (lo ≡ 0) × (o ≤ hi)
Wanted false W o lo hi = (lo ≤ o) × (hi ≡ W)

across : {W : ℕ} {g : Log} {z z' : Lent} {lo hi r : ℕ} {xs : List Access} {a e work : Work} (up : Bool) (d b o prev cur : ℕ) → o ≤ W
    → Room up b W → Room up d W → Wanted up W o lo hi → Taken W z.words (past up b W) lo hi cur xs g z.log a
    → r ≡ read_le (view W (ordered up prev cur)) o W → Stored W W (chunk up d W) r z z' e → work ≡ joined a e
    → Carried W (moving d (b + o)) (Pending up W o b prev) (xs ++ (store W (chunk up d W) ∷ [])) (Holds (past up b W) lo hi cur)
    (lent z.words g) z' work
across {W} true d b o prev cur l m n f t re q j =
    ran_weaker (λ held h. h) (λ held h. h.1)
    (ran_then (taken_above b o W prev (omega arith) t)
    (straddle_stored b o prev cur d (b + o) l (omega arith) re (λ held h. h.0)
    (λ held h i lo hi. h.1 i (omega arith) (omega arith)) q) j)
across {W} false d b o prev cur l m n f t re q j =
    ran_weaker (λ held h. h) (λ held h. h.1)
    (ran_then (taken_below b 0 o prev (omega arith) t)
    (straddle_stored (b - W) o cur prev d (b + o) l (omega arith) re (λ held h i lo hi. h.1 i (omega arith) (omega arith))
    (λ held h i lo hi. ap held (omega arith) ∙ h.0 i lo hi) q) j)

-- A whole word that is held has what is wanted of it in the next turn.
whole_pending : {W : ℕ} (up : Bool) (o c v : ℕ) → o ≤ W → (held : ℕ → ℕ) → Holds c 0 W v held → Pending up W o c v held
whole_pending true o c v l held h = λ j lo hi. h j (omega arith) hi
whole_pending false o c v l held h = λ j lo hi. h j lo (omega arith)

module _ {W r q : ℕ} {g : Log} {z z' : Lent} {a e work : Work} (up : Bool) (d b o prev cur : ℕ)
    (word : r ≡ read_le (view W (ordered up prev cur)) o W) (here : q ≡ chunk up d W) (s : Stored W W q r z z' e) (j : work ≡ joined a e) where
  -- A turn that loads the whole next word leaves it pending.
  pub next_across : {c : ℕ} → Across up W (length z.words) d b o (W + W) → c ≡ past up b W
      → Found (read_le (view W z.words) c W) (load W c ∷ []) g z.log cur a
      → Carried W (moving d (b + o)) (Pending up W o b prev) (load W (past up b W) ∷ store W (chunk up d W) ∷ [])
      (Pending up W o (past up b W) cur) (lent z.words g) z' work
  next_across h p f =
      let room = next_room up b h.words.both.src h.word h.less (omega arith) in
      ran_weaker (λ held x. x) (whole_pending up o (past up b W) cur (omega (arith, h.less)))
      (across up d b o prev cur (omega (arith, h.less)) room (room_less up d W (W + W) (omega arith) (ahead_room up h.words.both.dest))
      (whole up) (whole_taken (next_boundary up W b room h.word) (rw p at f)) word (rw here at s) j)
    where
      whole : (up : Bool) → Wanted up W o 0 W
      whole true = (refl, omega (arith, h.less))
      whole false = (omega arith, refl)

  -- The last one, which loads a part, leaves nothing to store.
  pub last_across : {c : ℕ} → Core W → Across up W (length z.words) d b o W → c ≡ past up b W
      → PartFound (not up) W o c z.words g z.log cur a
      → Carried W (moving d (b + o)) (Pending up W o b prev) (part (not up) W (past up b W) o ++ (store W (chunk up d W) ∷ [])) Anything
      (lent z.words g) z' work
  last_across core h p f =
      let room = next_room up b h.words.both.src h.word h.less (omega arith) in
      ran_weaker (λ held x. x) (λ held x. tt)
      (across up d b o prev cur (omega (arith, h.less)) room (ahead_room up h.words.both.dest) (wanted up)
      (part_taken core (not up) (next_boundary up W b room h.word) h.some h.less (rw p at f)) word (rw here at s) j)
    where
      wanted : (up : Bool) → Wanted up W o (from_byte (not up) o) (to_byte (not up) W o)
      wanted true = (refl, omega arith)
      wanted false = (omega arith, refl)

-- ---- how few accesses a part takes

pub part_few : (end : Bool) (W b o : ℕ) → length (part end W b o) ≤ 3
part_few true W b o = lead_few true _ _
part_few false W b o = lead_few false _ _

-- The last part, and the last store.
pub last_few : (end : Bool) (W b o : ℕ) (x : Access) → length (part end W b o ++ (x ∷ [])) ≤ 4
last_few end W b o x = omega (arith, length-append (part end W b o) (x ∷ []), part_few end W b o)

pub last_joinable : {W y r : ℕ} {g g' : Log} {z z' : Lent} {a b : Work} (end : Bool) (c o : ℕ) → Recorded (part end W c o) g g' a
    → Stored W W y r z z' b → Joinable a b
last_joinable {W} end c o p q = recorded_joinable p q.recorded (omega (arith, part_few end W c o))
