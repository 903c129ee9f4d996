use Rattle.std.proofs.Common.{◌∙◌, ap, refl, sym}
use Rattle.std.specs.Prelude.{option_and_then}
use Rattle.std.proofs.lemmas.Option.{slice_get_read}
use Rattle.chorus_c.specs.Exchanging.{asked_by}
use Rattle.chorus_c.specs.declared.exchange.TheConstants.{CALLS}
use Rattle.chorus_c.proofs.asking.command_in.Goals as goal

pub returns-in-Some-clause-asked : goal.returns-in-Some-clause-asked
returns-in-Some-clause-asked c =
    let found = c.in-Some.ensures.lookup in
    c.asked.ensures ∙ ap (option_and_then (asked_by c.args.exchange.now)) (sym (slice_get_read CALLS 18 c.args.exchange.now.call c.in-Some.call.now refl found.3.0 found.1))
