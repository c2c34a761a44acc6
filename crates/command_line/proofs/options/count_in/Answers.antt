use Rattle.std.proofs.Common.{refl}
use Rattle.std.specs.Str.Parse.{ParsesUnsigned, ExplainsUnsignedError, HasUnsignedDigitsIfOk}
use Rattle.clap.specs.Words.{found_of, one_text}
use Rattle.command_line.proofs.Reading.{reads_none, reads_number}
use Rattle.command_line.proofs.options.count_in.Goals as goal

pub returns-clause-found : goal.returns-clause-found
returns-clause-found c =
    let f = found_of c.args.found.now in
    let name = c.args.name.now in
    reads_number (λ bs r. ParsesUnsigned 32 10 bs r × ExplainsUnsignedError 10 bs r × HasUnsignedDigitsIfOk bs r) 32 (λ t n g. g.0) f name (one_text f name) refl c.get_one.result
    c.get_one.ensures.none c.get_one.ensures.value

pub returns-clause-none : goal.returns-clause-none
returns-clause-none c =
    reads_none (λ bs r. ParsesUnsigned 32 10 bs r × ExplainsUnsignedError 10 bs r × HasUnsignedDigitsIfOk bs r) 32 (λ t e g. g.0) (found_of c.args.found.now) c.args.name.now c.get_one.result
    c.get_one.ensures.value
