-- `commands::fields::field_of` takes as many bytes as the field has. Assumes nothing.
use Rattle.std.proofs.Common.{◌≡◌, ◌-◌, ◌≤◌, length, take, drop, sym, ap, ◌∙◌, length-take-le, rules}
use Rattle.commands.specs.Fields.{blank, field_of, field_at}
use Rattle.commands.proofs.Reading.{field_sized}
use Rattle.commands.proofs.fields.field_of.Goals as goal
use Rattle.commands.proofs.fields.field_of.Goals.{After-count_front}

-- After the blanks stands the field, which has that many bytes.
sized : (c : After-count_front)
    → let s = c.after_fields-s.result.now in let start = c.count_front.result in let t = take (length s - start) (drop start s) in
    (take c.args.size t ≡ field_at c.args.line.now c.args.i) × (c.args.size ≤ length t)
sized c =
    let is = field_sized _ _ _ (c.count_front.ensures.value blank (λ byte b k. search rules)) (rw c.after_fields-s.ensures c.requires) in
    (is.0 ∙ ap field_of c.after_fields-s.ensures, is.1)

pub slice_bounds-result-end : goal.slice_bounds-result-end
slice_bounds-result-end c = sym (length-take-le _ _ (sized (goal.at.slice_bounds-result-end c).After-count_front).1)

pub returns : goal.returns
returns c = (sized (goal.at.returns c).After-count_front).0
