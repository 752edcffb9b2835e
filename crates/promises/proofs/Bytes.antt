-- From the promise of an accepted call to each byte: at every address of the memory stands what C says. The logged calls too.
-- Assumes nothing.
use mathlib.Core.Path.{◌≡◌, ap, ◌∙◌}
use mathlib.Core.List.{List}
use Prim.Native.Nat.{ℕ, ◌+◌, ◌*◌, ◌-◌, ◌<◌}
use lib.IntN.{ℤ}
use lib.ListN.{length}
use Rattle.model.specs.declared.Answer.{Answer}
use Rattle.model.specs.Access.{Access}
use Rattle.model.specs.Answers.{copy_words, move_words, fill_words}
use Rattle.model.specs.Memory.{view, packed, over}
use Rattle.model.specs.Meaning.{memcpy, memmove, memset}
use Rattle.model.specs.Promises.{CopyPromise, MovePromise, FillPromise, LogPromised}
use Rattle.model.specs.Refusals.{Line, none, ruled, copy_table, ranges_table, fill_table, log_table}
use Rattle.model.proofs.MeaningLaws.{byte_of_residue}
use Rattle.model.proofs.MemoryLaws.{Place, below, inside, above, place, over_in, over_below, over_above, view_lt, view-packed}
use Rattle.model.proofs.RefusalLaws.{checked_none}

-- Bytes laid over bytes are bytes.
over_lt : (a n : ℕ) (g f : ℕ → ℕ) → ((x : ℕ) → g x < 256) → ((x : ℕ) → f x < 256) → (x : ℕ) → over a n g f x < 256
over_lt a n g f p q x = go (place a n x)
  where
    go : Place a n x → over a n g f x < 256
    go (below l) = rw (over_below a n g f x l) (q x)
    go (inside l m) = rw (over_in a n g f x l m) (p x)
    go (above l) = rw (over_above a n g f x l) (q x)

module _ (W : ℕ) (some : 0 < W) (ws : List ℕ) where
  copied : (dest src n x : ℕ) → memcpy dest src n (view W ws) x < 256
  unfolding memcpy
  copied dest src n = over_lt dest n _ _ (λ x. view_lt W ws ((x + src) - dest)) (view_lt W ws)

  moved : (dest src n x : ℕ) → memmove dest src n (view W ws) x < 256
  unfolding memmove
  moved dest src n = over_lt dest n _ _ (λ x. view_lt W ws (src + (x - dest))) (view_lt W ws)

  filled : (s : ℕ) (c : ℤ) (n x : ℕ) → memset s c n (view W ws) x < 256
  unfolding memset
  filled s c n = over_lt s n _ _ (λ x. (byte_of_residue c).small) (view_lt W ws)

  left : {ws' : List ℕ} (meant : ℕ → ℕ) → ((x : ℕ) → meant x < 256) → ws' ≡ packed W (length ws) meant → (a : ℕ) → a < W * length ws
      → view W ws' a ≡ meant a
  left meant h e a l = ap (λ (vs : List ℕ). view W vs a) e ∙ view-packed W some (length ws) meant h a l

  pub copy_bytes : {r : Answer} {ws' : List ℕ} (dest src n : ℕ) → ruled (copy_table W (length ws) dest src n) ≡ none
      → CopyPromise W ws dest src n r ws' → (a : ℕ) → a < W * length ws → view W ws' a ≡ memcpy dest src n (view W ws) a
  unfolding copy_words
  copy_bytes dest src n e p = left (memcpy dest src n (view W ws)) (copied dest src n) (p.memory ∙ checked_none _ _ _ e)

  pub move_bytes : {r : Answer} {ws' : List ℕ} (dest src n : ℕ) → ruled (ranges_table W (length ws) dest src n) ≡ none
      → MovePromise W ws dest src n r ws' → (a : ℕ) → a < W * length ws → view W ws' a ≡ memmove dest src n (view W ws) a
  unfolding move_words
  move_bytes dest src n e p = left (memmove dest src n (view W ws)) (moved dest src n) (p.memory ∙ checked_none _ _ _ e)

  pub fill_bytes : {r : Answer} {ws' : List ℕ} (s : ℕ) (c : ℤ) (n : ℕ) → ruled (fill_table W (length ws) s n) ≡ none
      → FillPromise W ws s c n r ws' → (a : ℕ) → a < W * length ws → view W ws' a ≡ memset s c n (view W ws) a
  unfolding fill_words
  fill_bytes s c n e p = left (memset s c n (view W ws)) (filled s c n) (p.memory ∙ checked_none _ _ _ e)

  -- A logged call, whichever bytes it means.
  pub log_bytes : {lines : List Line} {dest : ℕ} {xs : List Access} {es ws' es' : List ℕ} {r : Answer} (meant : ℕ → ℕ)
      → ((x : ℕ) → meant x < 256) → ruled (log_table lines xs (length es)) ≡ none
      → LogPromised lines dest xs (packed W (length ws) meant) ws es r ws' es' → (a : ℕ) → a < W * length ws → view W ws' a ≡ meant a
  log_bytes meant h e p = left meant h (p.memory ∙ checked_none _ _ _ e)
