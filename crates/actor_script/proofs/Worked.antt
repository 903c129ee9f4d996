-- The generator's definition computes its lines.
use Rattle.std.proofs.Common.{◌≡◌, [], ◌∷◌, ◌++◌, drop, refl}
use Rattle.std.specs.Prelude.{codes}
use Rattle.std.specs.Fmt.{digits}
use Rattle.actor_script.specs.Generator.{opening, generated, lines_from, drawn_lines, drawn_line, draw_below, store_line, load_line, span_line, pageout_line}

pub draw : draw_below 16 0 ≡ (15, 1442695040888963407)
unfolding draw_below
draw = refl

pub of_zero : generated 0 11 ≡ opening ++ codes "pageout 1" ∷ []
unfolding lines_from opening drawn_lines drawn_line draw_below pageout_line digits
of_zero = refl

pub of_one : drop 28 (generated 1 29) ≡ codes "move c3 37 c1 17 16" ∷ []
unfolding lines_from opening drawn_lines drawn_line draw_below store_line load_line span_line pageout_line digits
of_one = refl
