use Rattle.std.proofs.Common.{refl, ap, ◌∙◌, arith}
use Rattle.code.specs.Edition.{times}
use Rattle.byte_edition.specs.Edition.{byte_edition}
use Rattle.edit.specs.Rows.{first_fixes, second_fixes}
use Rattle.edit.proofs.Laws.{checks-fit, lent_rows, corrected-lent}
use Rattle.edit.proofs.correct.Goals as goal

pub overflow_sub-a : goal.overflow_sub-a
overflow_sub-a c =
    let k = checks-fit c.args.m c.args.w c.args.c c.requires.good_in in
    omega arith

pub add_rows-requires : goal.add_rows-requires
unfolding first_fixes second_fixes
add_rows-requires c =
    let a = c.args in record { h_len = lent_rows a.m a.w a.c a.word.now first_fixes c.requires.good_in c.requires.c_bound c.requires.word_len refl; k_len = lent_rows a.m a.w a.c a.word.now second_fixes c.requires.good_in c.requires.c_bound c.requires.word_len refl }

pub returns : goal.returns
unfolding first_fixes second_fixes
returns c =
    let a = c.args in
    corrected-lent a.m a.w a.c a.first a.second _ a.word.now c.add_rows.new.part c.requires.good_in c.requires.c_bound c.requires.word_len
    (c.shifted_product-factor.ensures ∙ ap (times byte_edition a.second) c.power_of_two.ensures) c.add_rows.ensures
