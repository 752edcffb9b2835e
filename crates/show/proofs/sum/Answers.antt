-- `show::sum` adds the eight counts up, which is the sum of all that there are (`sum_of_first`).
-- Assumes nothing.
use Rattle.std.proofs.Common.{◌≡◌, refl, sym, ap, ◌∙◌, List, ℕ, zero, suc, ◌<◌, ◌≤◌, ◌^◌, rules, arith, add-one, length, take, take_all}
use Rattle.std.specs.Prelude.{sum}
use Rattle.std.proofs.lemmas.List.Sums.{sum_by_more}
use Rattle.show.specs.LoggedText.{sum_of}
use Rattle.show.proofs.sum.Goals as goal

sum_of_first : (ns : List ℕ) (k : ℕ) → k ≤ length ns → sum_of ns k ≡ sum (take k ns)
unfolding sum_of
sum_of_first ns zero l = refl
sum_of_first ns (suc k) l =
    let more = sum_by_more (λ (n : ℕ). n) ns k 0 (omega arith) in
    rw (sum_of_first ns k (omega arith), ← add-one k) (sym more)

of_eight : (ns : List ℕ) → length ns ≡ 8 → sum_of ns 8 ≡ sum ns
of_eight ns eight = sum_of_first ns 8 (omega arith) ∙ ap sum (take_all 8 ns (omega arith))

pub sum-requires-clause-fits : goal.sum-requires-clause-fits
sum-requires-clause-fits c =
    let few : sum c.args.numbers < 2 ^ 64 = omega (arith, of_eight c.args.numbers (search rules)) in
    search rules

pub returns : goal.returns
returns c =
    let whole = of_eight c.args.numbers (search rules) in
    search rules
