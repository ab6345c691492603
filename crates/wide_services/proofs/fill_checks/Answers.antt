use Rattle.wide_shape.specs.EditionLaws.{wide-sound}
use Rattle.code_loops.specs.EncodeLaws.{checks-given, checks-filled}
use Rattle.wide_services.proofs.fill_checks.Goals as goal

pub recover_determined-requires : goal.recover_determined-requires
recover_determined-requires c =
    let p = c.requires in
    let q = checks-given wide-sound p.good_in _ _ p.word_len p.marks_len c.mark_groups.ensures in
    record { marks_value = q.0; marks_bound = q.1 }

pub returns : goal.returns
returns c =
    let p = c.requires in
    checks-filled wide-sound p.good_in _ _ p.word_len p.marks_len c.mark_groups.ensures c.recover_determined.ensures.word
