-- A walk: the shape that every list of a copy or move has, in either direction. It loads the source in blocks and stores the
-- destination, both in the order of the direction, and stores no byte before it is loaded.
-- What a walk does is shown by induction on it. Assumes nothing.
use mathlib.Core.Path.{◌≡◌, refl, ap, ◌∙◌}
use mathlib.Core.Bool.{Bool}
use mathlib.Core.List.{List, [], ◌∷◌, ◌++◌}
use Prim.Native.Nat.{ℕ, ◌+◌, ◌≤◌}
use native.Mathlib.Nat.{add-zero}
use native.Mathlib.Omega.{arith}
use Rattle.model.specs.Access.{Access, load, store}
use Rattle.model.specs.Fit.{Aligned, Every, none, next}
use Rattle.model.specs.Lists.{chunk, past}
use Rattle.model.specs.Tally.{total}
use Rattle.model.proofs.FitLaws.{every_append}
use Rattle.model.proofs.TallyLaws.{total-append}
use Rattle.lists.specs.Cover.{within, loads_at, stores_at}
use Rattle.lists.proofs.Ranges.{within_adjacent}
use Rattle.lists.proofs.Cursors.{Room, room_less, next_chunk}
use Rattle.lists.proofs.Amid.{Among, among}
use Rattle.lists.proofs.Blocks.{Block, block_once, block_never, block_every}

-- From the cursors d and s, n bytes each: k bytes stored and l loaded before the list, k' and l' after it.
pub data Walk (W : ℕ) (up : Bool) (d s n : ℕ) : List Access → ℕ → ℕ → ℕ → ℕ → Type 0 where
  stays : {k l : ℕ} → Walk W up d s n [] k l k l
  loads : {xs : List Access} {k l m : ℕ} → Block W load xs (chunk up (past up s l) m) m → k ≤ l → l + m ≤ n
      → Walk W up d s n xs k l k (l + m)
  stored : {w k l : ℕ} → Aligned W w (chunk up (past up d k) w) → k + w ≤ l → l ≤ n
      → Walk W up d s n (store w (chunk up (past up d k) w) ∷ []) k l (k + w) l
  both : {xs ys : List Access} {k l k' l' k'' l'' : ℕ} → Walk W up d s n xs k l k' l' → Walk W up d s n ys k' l' k'' l''
      → Walk W up d s n (xs ++ ys) k l k'' l''

module _ {W : ℕ} {up : Bool} {d s n : ℕ} where
  -- What is done grows by what each step counts for.
  walk_total : {xs : List Access} {k l k' l' : ℕ} (c : Access → ℕ) (done : ℕ → ℕ → ℕ)
      → ((ys : List Access) (i j m : ℕ) → j + m ≤ n → Block W load ys (chunk up (past up s j) m) m
      → done i j + total c ys ≡ done i (j + m))
      → ((w i j : ℕ) → i + w ≤ n → done i j + c (store w (chunk up (past up d i) w)) ≡ done (i + w) j)
      → Walk W up d s n xs k l k' l' → done k l + total c xs ≡ done k' l'
  unfolding total
  walk_total c done p q (stays {k} {l}) = add-zero (done k l)
  walk_total c done p q (loads {xs} {k} {l} {m} r i j) = p xs k l m j r
  walk_total c done p q (stored {w} {k} {l} a i j) =
      ap (λ (t : ℕ). done k l + t) (add-zero (c (store w (chunk up (past up d k) w)))) ∙ q w k l (omega arith)
  walk_total c done p q (both {xs} {ys} {k} {l} v w) =
      omega (arith, total-append c xs ys, walk_total c done p q v, walk_total c done p q w)

  -- Each source byte is loaded once, and no other byte.
  pub walk_loads : {xs : List Access} {k l k' l' : ℕ} (x : ℕ) → Room up s n → Walk W up d s n xs k l k' l'
      → within (chunk up s l) l x + total (loads_at x) xs ≡ within (chunk up s l') l' x
  walk_loads x r v =
      walk_total (loads_at x) (λ i j. within (chunk up s j) j x)
      (λ ys i j m h b. rw (block_once (loads_at x) x (λ w a. refl) b)
      (within_adjacent x (next_chunk up s j m (room_less up s (j + m) n h r))))
      (λ w i j h. add-zero (within (chunk up s j) j x)) v

  -- Each destination byte is stored once, and no other byte.
  pub walk_stores : {xs : List Access} {k l k' l' : ℕ} (x : ℕ) → Room up d n → Walk W up d s n xs k l k' l'
      → within (chunk up d k) k x + total (stores_at x) xs ≡ within (chunk up d k') k' x
  walk_stores x r v =
      walk_total (stores_at x) (λ i j. within (chunk up d i) i x)
      (λ ys i j m h b. rw (block_never (stores_at x) (λ w a. refl) b) (add-zero (within (chunk up d i) i x)))
      (λ w i j h. within_adjacent x (next_chunk up d i w (room_less up d (i + w) n h r))) v

-- What holds of every aligned load among the source bytes and every aligned store among the destination bytes holds of every access.
pub walk_every : {W : ℕ} {up : Bool} {d s n : ℕ} {xs : List Access} {k l k' l' : ℕ} {P : Access → Type 0} → Room up d n
    → Room up s n → Walk W up d s n xs k l k' l' → ((w b : ℕ) → Aligned W w b → Among up s n w b → P (load w b))
    → ((w b : ℕ) → Aligned W w b → Among up d n w b → P (store w b)) → Every P xs
walk_every q r stays p t = none
walk_every {up = up} {d} {s} {n} q r (loads {xs} {k} {l} {m} v i j) p t =
    block_every v (λ w b a lo hi. p w b a (among up s n l m w b r j lo hi))
walk_every {up = up} {d} {s} {n} q r (stored {w} {k} {l} a i j) p t =
    next (t w (chunk up (past up d k) w) a (among up d n k w w (chunk up (past up d k) w) q (omega arith) (omega arith) (omega arith))) none
walk_every q r (both v w) p t = every_append (walk_every q r v p t) (walk_every q r w p t)
