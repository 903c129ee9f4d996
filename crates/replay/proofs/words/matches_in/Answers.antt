use Rattle.std.proofs.Common.{◌≡◌, ◌∙◌, ap, map}
use Rattle.clap.specs.Words.{App, app_of}
use Rattle.replay.specs.Reading.{bare_command, with_options}
use Rattle.replay.proofs.CommandLine.Command.{options_told, parse_read, parse_refused, told}
use Rattle.replay.proofs.words.matches_in.Goals as goal

pub returns : goal.returns
returns c =
    let known = map (λ w. w.now) c.args.known.now in
    let words = map (λ w. w.now) c.args.words.now in
    let command = app_of c.in_ok-command.command in
    let command_is : command ≡ told known = c.in_ok-command.ensures ∙ ap (λ (a : App). with_options a known) c.bare_command.ensures ∙ options_told bare_command known in
    let parse = c.try_get_matches_from in
    record {
      read = parse_read known words c.requires command command_is parse.result parse.ensures.matches parse.ensures.kinds;
      refused = parse_refused known words c.requires command command_is parse.result parse.ensures.kinds;
    }
