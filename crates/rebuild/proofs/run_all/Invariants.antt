-- The bytes that have come stand at the start of the buffer; until the run ends nothing is written.
use Rattle.std.proofs.Common.{◌≡◌, ◌⊎◌, ◌≤◌, true, length, take, IfSome}
use Rattle.std.specs.Io.KnownBytes.{Appends, Consumes, IsAtEnd}
use Rattle.block_input.specs.Output.{output_of}
use Rattle.rebuild.specs.Runs.{WritesFront}
use Rattle.rebuild.proofs.run_all.Given as goal

abbrev pub invariant-loop : goal.invariant-loop
invariant-loop g l =
    let r0 = g.I.Read.remaining l.initial.reader in
    let r1 = g.I.Read.remaining l.reader in
    let o0 = g.O.Write.contents l.initial.to.output in
    let o1 = g.O.Write.contents l.to.output in
    (length l.input ≡ 68612) × (l.run.used ≤ 68612)
    × Consumes r0 r1 (take l.run.used l.input)
    × (l.run.more ≡ true → l.to.output ≡ l.initial.to.output)
    × (l.run.whole ≡ true → (l.to.output ≡ l.initial.to.output) × (IsAtEnd r1 ⊎ (l.run.used ≡ 68612)))
    × (l.run.told ≡ true → IfSome r0 (λ xs. Appends o0 o1 (output_of xs)))
    × IfSome r0 (λ xs. WritesFront o0 o1 (output_of xs))
