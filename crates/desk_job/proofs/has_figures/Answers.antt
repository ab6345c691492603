use Rattle.std.proofs.Common.{◌≡◌, refl, sym, ap, ◌∙◌, ◌*◌, Bool, true, false, arith, rules, length, length-take-le, ne_eqb}
use Rattle.std.proofs.lemmas.Bool.Decides.{Decides-eqb}
use Rattle.std.proofs.lemmas.Slice.Eq.{slice_eq-Decides}
use Rattle.desk_job.specs.declared.Figures.{Figures}
use Rattle.desk_job.specs.JobLaws.{good-places, good-iff, other-excess, figures-iff}
use Rattle.desk_job.proofs.has_figures.Goals as goal

pub slice_bounds-marks-end : goal.slice_bounds-marks-end
slice_bounds-marks-end c =
    let k = good-places c.args.job c.requires in
    let l : length c.args.job.marks ≡ 240 = search rules in
    omega arith

pub slice_bounds-figures_of-end : goal.slice_bounds-figures_of-end
slice_bounds-figures_of-end c =
    let j = c.args.job in
    let k = good-places j c.requires in
    let l : length j.marks ≡ 240 = search rules in
    sym (length-take-le (j.m * j.w) j.marks (omega arith))

-- two tests that pass on the same values
same_tests : (a b : Bool) → (a ≡ true → b ≡ true) → (b ≡ true → a ≡ true) → a ≡ b
same_tests true b f g = sym (f refl)
same_tests false true f g = g refl
same_tests false false f g = refl

pub returns-then-worked-job : goal.returns-then-worked-job
returns-then-worked-job c =
    let j = c.args.job in
    let M = ((good-iff j).0 c.requires).0 in
    let worked = c.figures_of-worked.ensures.value M.good M.size in
    let counts = ap (λ (x : Figures). x.lost) worked in
    let excess = sym c.if-worked-job.true ∙ ap (λ (x : Figures). x.excess) worked in
    let same = slice_eq-Decides Decides-eqb j.lost c.figures_of-worked.result.lost c.eq.result c.eq.ensures in
    same_tests _ _ (λ e. (figures-iff j).1 (same.0 e ∙ counts, excess)) (λ e. same.1 (((figures-iff j).0 e).0 ∙ sym counts))

pub returns-else-worked-job : goal.returns-else-worked-job
returns-else-worked-job c =
    let j = c.args.job in
    let M = ((good-iff j).0 c.requires).0 in
    let worked = c.figures_of-worked.ensures.value M.good M.size in
    ne_eqb _ _ c.if-worked-job.false ∙ sym (other-excess j (λ e. c.if-worked-job.false (ap (λ (x : Figures). x.excess) worked ∙ e)))
