use Rattle.std.proofs.Common.{◌∙◌, Some, ap, refl, sym}
use Rattle.replay.specs.declared.asked.Asked.TheVariants as asks
use Rattle.replay.proofs.CommandLine.Kinds.{begins}
use Rattle.replay.proofs.Promise.{as_asked, asked_holds, no_usage, untouched}
use Rattle.replay.proofs.top.run.Goals as goal

pub replay_commands-requires : goal.replay_commands-requires
replay_commands-requires g c = begins _ _ c.requires (asks.Run c.in-Run.size) (sym c.in-Ok-Some.ensures ∙ c.in-Ok-Some.field-0-is ∙ ap Some c.in-Run.is)

pub returns-in-Run-clause-ends : goal.returns-in-Run-clause-ends
returns-in-Run-clause-ends g c = λ some. as_asked (asks.Run c.in-Run.size) _ _ (sym (ap Some c.in-Run.is) ∙ sym c.in-Ok-Some.field-0-is ∙ c.in-Ok-Some.ensures) (c.replay_commands.ensures.ends some)

pub returns-in-Run-clause-too_long_exactly : goal.returns-in-Run-clause-too_long_exactly
returns-in-Run-clause-too_long_exactly g c = c.replay_commands.ensures.too_long

pub returns-in-Run-clause-untouched : goal.returns-in-Run-clause-untouched
returns-in-Run-clause-untouched g c = untouched c.replay_commands.result _ _ c.replay_commands.ensures.not_usage c.replay_commands.ensures.untouched

pub returns-in-Run-clause-complete : goal.returns-in-Run-clause-complete
returns-in-Run-clause-complete g c = λ short. c.replay_commands.ensures.complete (asked_holds (asks.Run c.in-Run.size) _ _ (sym (ap Some c.in-Run.is) ∙ sym c.in-Ok-Some.field-0-is ∙ c.in-Ok-Some.ensures) short refl)

pub trial-requires-clause-lines : goal.trial-requires-clause-lines
trial-requires-clause-lines g c = (begins _ _ c.requires (asks.Trial c.in-Trial.script c.in-Trial.frames) (sym c.in-Ok-Some.ensures ∙ c.in-Ok-Some.field-0-is ∙ ap Some c.in-Trial.is)).0

pub trial-requires-clause-begins : goal.trial-requires-clause-begins
trial-requires-clause-begins g c = (begins _ _ c.requires (asks.Trial c.in-Trial.script c.in-Trial.frames) (sym c.in-Ok-Some.ensures ∙ c.in-Ok-Some.field-0-is ∙ ap Some c.in-Trial.is)).1

pub returns-in-Trial-clause-ends : goal.returns-in-Trial-clause-ends
returns-in-Trial-clause-ends g c = λ some. as_asked (asks.Trial c.in-Trial.script c.in-Trial.frames) _ _ (sym (ap Some c.in-Trial.is) ∙ sym c.in-Ok-Some.field-0-is ∙ c.in-Ok-Some.ensures) (c.trial.ensures.ends some)

pub returns-in-Trial-clause-untouched : goal.returns-in-Trial-clause-untouched
returns-in-Trial-clause-untouched g c = untouched c.trial.result _ _ (no_usage c.trial.result c.trial.ensures.ended) c.trial.ensures.untouched

pub replay_processes-requires : goal.replay_processes-requires
replay_processes-requires g c = begins _ _ c.requires (asks.Mix c.in-Mix.frames) (sym c.in-Ok-Some.ensures ∙ c.in-Ok-Some.field-0-is ∙ ap Some c.in-Mix.is)

pub returns-in-Mix-clause-ends : goal.returns-in-Mix-clause-ends
returns-in-Mix-clause-ends g c = λ some. as_asked (asks.Mix c.in-Mix.frames) _ _ (sym (ap Some c.in-Mix.is) ∙ sym c.in-Ok-Some.field-0-is ∙ c.in-Ok-Some.ensures) (c.replay_processes.ensures.ends some)

pub returns-in-Mix-clause-too_long_exactly : goal.returns-in-Mix-clause-too_long_exactly
returns-in-Mix-clause-too_long_exactly g c = c.replay_processes.ensures.too_long

pub returns-in-Mix-clause-untouched : goal.returns-in-Mix-clause-untouched
returns-in-Mix-clause-untouched g c = untouched c.replay_processes.result _ _ c.replay_processes.ensures.not_usage c.replay_processes.ensures.untouched

pub returns-in-Mix-clause-complete : goal.returns-in-Mix-clause-complete
returns-in-Mix-clause-complete g c = λ short. c.replay_processes.ensures.complete (asked_holds (asks.Mix c.in-Mix.frames) _ _ (sym (ap Some c.in-Mix.is) ∙ sym c.in-Ok-Some.field-0-is ∙ c.in-Ok-Some.ensures) short refl)

pub replay_messages-requires : goal.replay_messages-requires
replay_messages-requires g c = begins _ _ c.requires (asks.Ipc c.in-Ipc.frames) (sym c.in-Ok-Some.ensures ∙ c.in-Ok-Some.field-0-is ∙ ap Some c.in-Ipc.is)

pub returns-in-Ipc-clause-ends : goal.returns-in-Ipc-clause-ends
returns-in-Ipc-clause-ends g c = λ some. as_asked (asks.Ipc c.in-Ipc.frames) _ _ (sym (ap Some c.in-Ipc.is) ∙ sym c.in-Ok-Some.field-0-is ∙ c.in-Ok-Some.ensures) (c.replay_messages.ensures.ends some)

pub returns-in-Ipc-clause-too_long_exactly : goal.returns-in-Ipc-clause-too_long_exactly
returns-in-Ipc-clause-too_long_exactly g c = c.replay_messages.ensures.too_long

pub returns-in-Ipc-clause-untouched : goal.returns-in-Ipc-clause-untouched
returns-in-Ipc-clause-untouched g c = untouched c.replay_messages.result _ _ c.replay_messages.ensures.not_usage c.replay_messages.ensures.untouched

pub returns-in-Ipc-clause-complete : goal.returns-in-Ipc-clause-complete
returns-in-Ipc-clause-complete g c = λ short. c.replay_messages.ensures.complete (asked_holds (asks.Ipc c.in-Ipc.frames) _ _ (sym (ap Some c.in-Ipc.is) ∙ sym c.in-Ok-Some.field-0-is ∙ c.in-Ok-Some.ensures) short refl)

pub replay_segments-requires : goal.replay_segments-requires
replay_segments-requires g c = begins _ _ c.requires (asks.Keep c.in-Keep.limit c.in-Keep.frames) (sym c.in-Ok-Some.ensures ∙ c.in-Ok-Some.field-0-is ∙ ap Some c.in-Keep.is)

pub returns-in-Keep-clause-ends : goal.returns-in-Keep-clause-ends
returns-in-Keep-clause-ends g c = λ some. as_asked (asks.Keep c.in-Keep.limit c.in-Keep.frames) _ _ (sym (ap Some c.in-Keep.is) ∙ sym c.in-Ok-Some.field-0-is ∙ c.in-Ok-Some.ensures) (c.replay_segments.ensures.ends some)

pub returns-in-Keep-clause-too_long_exactly : goal.returns-in-Keep-clause-too_long_exactly
returns-in-Keep-clause-too_long_exactly g c = c.replay_segments.ensures.too_long

pub returns-in-Keep-clause-untouched : goal.returns-in-Keep-clause-untouched
returns-in-Keep-clause-untouched g c = untouched c.replay_segments.result _ _ c.replay_segments.ensures.not_usage c.replay_segments.ensures.untouched

pub returns-in-Keep-clause-complete : goal.returns-in-Keep-clause-complete
returns-in-Keep-clause-complete g c = λ short. c.replay_segments.ensures.complete (asked_holds (asks.Keep c.in-Keep.limit c.in-Keep.frames) _ _ (sym (ap Some c.in-Keep.is) ∙ sym c.in-Ok-Some.field-0-is ∙ c.in-Ok-Some.ensures) short refl)

pub replay_flat-requires : goal.replay_flat-requires
replay_flat-requires g c = begins _ _ c.requires (asks.Flat c.in-Flat.frames) (sym c.in-Ok-Some.ensures ∙ c.in-Ok-Some.field-0-is ∙ ap Some c.in-Flat.is)

pub returns-in-Flat-clause-ends : goal.returns-in-Flat-clause-ends
returns-in-Flat-clause-ends g c = λ some. as_asked (asks.Flat c.in-Flat.frames) _ _ (sym (ap Some c.in-Flat.is) ∙ sym c.in-Ok-Some.field-0-is ∙ c.in-Ok-Some.ensures) (c.replay_flat.ensures.ends some)

pub returns-in-Flat-clause-too_long_exactly : goal.returns-in-Flat-clause-too_long_exactly
returns-in-Flat-clause-too_long_exactly g c = c.replay_flat.ensures.too_long

pub returns-in-Flat-clause-untouched : goal.returns-in-Flat-clause-untouched
returns-in-Flat-clause-untouched g c = untouched c.replay_flat.result _ _ c.replay_flat.ensures.not_usage c.replay_flat.ensures.untouched

pub returns-in-Flat-clause-complete : goal.returns-in-Flat-clause-complete
returns-in-Flat-clause-complete g c = λ short. c.replay_flat.ensures.complete (asked_holds (asks.Flat c.in-Flat.frames) _ _ (sym (ap Some c.in-Flat.is) ∙ sym c.in-Ok-Some.field-0-is ∙ c.in-Ok-Some.ensures) short refl)
