use Rattle.std.proofs.Common.{ap, ◌∙◌, ◌++◌, drop, length, replicate}
use Rattle.std.proofs.lemmas.List.{drop-replicate}
use Rattle.desk_open.proofs.kept.Goals as goal

pub returns : goal.returns
returns c =
    let m = c.args.marks.now in
    ap (λ x. x ++ drop (length m) (replicate 240 0)) c.copy_from_slice.ensures.after ∙ ap (λ x. m ++ x) (drop-replicate (length m) 240 0)
