-- Demand 3: how long the lists are, as a function of addresses and length alone.
-- Assumes nothing.
use Rattle.std.specs.Prelude.{ℕ, ◌+◌, ◌*◌, ◌-◌, ◌/◌, ◌%◌, Bool, true, cond, eqb, ltb}
use Rattle.model.specs.Lists.{cursor, past, threshold, head}

-- The word sizes that a core may have.
pub data Core : ℕ → Type 0 where
  eight_byte : Core 8
  four_byte : Core 4

-- A partial load of m bytes makes one access for each binary digit 1 of m, which is below 8.
unfoldable pub ones : ℕ → ℕ
ones m = m / 4 % 2 + m / 2 % 2 + m % 2

-- w words from a source that stands o bytes into its word.
unfoldable pub word_accesses : ℕ → ℕ → ℕ → ℕ
word_accesses W o w = cond (eqb o 0) (2 * w) (ones o + ones (W - o) + 2 * (w - 1) + 1)

-- From the cursors d and s: two for each byte; or the head, the words and the tail.
unfoldable pub run_accesses : Bool → ℕ → ℕ → ℕ → ℕ → ℕ
run_accesses up W d s n =
    let h = head up W d in
    cond (ltb n (threshold W)) (2 * n) (2 * h + word_accesses W (past up s h % W) ((n - h) / W) + 2 * ((n - h) % W))

-- A copy or move, from the first addresses.
unfoldable pub accesses : Bool → ℕ → ℕ → ℕ → ℕ → ℕ
accesses up W dest src n = run_accesses up W (cursor up dest n) (cursor up src n) n

-- A fill: one for each byte; or the head, the words and the tail.
unfoldable pub fill_accesses : ℕ → ℕ → ℕ → ℕ
fill_accesses W s n =
    let h = head true W s in
    cond (ltb n (threshold W)) n (h + (n - h) / W + (n - h) % W)

-- For n of 16 or more, half a word times the accesses of a copy or move is at most n plus this: 4 x length <= n + 110 on 8-byte words,
-- 2 x length <= n + 22 on 4-byte words.
abbrev pub slack : {W : ℕ} → Core W → ℕ
slack eight_byte = 110
slack four_byte = 22
