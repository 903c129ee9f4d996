use Rattle.std.proofs.Common.{◌≡◌, ℕ, ◌-◌, List, [], ◌∷◌, length, Option, Some, ap, ◌∙◌, arith}
use Rattle.std.specs.Prelude.{Ok, Err}
use Rattle.std.proofs.lemmas.List.{length-append}
use Rattle.interface_callers.proofs.Words.{Machine}
use Rattle.mix_process.specs.Loaded.{IsLoaded, MayLoad}
use Rattle.mix_process.specs.declared.process.Part.{Part}
use Rattle.mix_process.specs.declared.process.Process.{Process}
use Rattle.mix_process.proofs.Adding.FilledAndMapped.{handed_on}
use Rattle.mix_process.proofs.Starts.ImageLoaded.{data_adds, data_may, made1, made2, no_data, no_text, stack_adds, stack_may, stacked, text_maps, text_may}
use Rattle.mix_process.proofs.mix.Mix.load_image.Goals as goal

-- the last place
place_is : {m : Machine} {text : Part} {data_pages stack : ℕ} (table : List (Option Process)) (may : MayLoad m table text data_pages stack) (len : ℕ) → len ≡ length table → len - 1 ≡ length may.front
place_is table may len e = omega (arith, e, ap length may.is, length-append may.front (Some may.child ∷ []))

pub overflow_sub-place : goal.overflow_sub-place
overflow_sub-place g c = omega (arith, c.len-place.ensures, c.args.self.now.processes.ok.0, ap length c.requires.may.is, length-append c.requires.may.front (Some c.requires.may.child ∷ []))

pub map_part-requires-clause-may : goal.map_part-requires-clause-may
map_part-requires-clause-may g c =
    (g.M.Mapper.held c.args.mapper.now, g.M.Mapper.page_bytes c.args.mapper.now, c.requires.may.child, text_may g.M.Mapper g.G.Gmi c.args.mapper.now c.args.self.now c.requires.can c.args.text c.args.data_pages c.args.stack_pages c.requires.may (c.len-place.result - 1) (place_is _ c.requires.may c.len-place.result (c.len-place.ensures ∙ c.args.self.now.processes.ok.0)))

pub returns-in_err-map_part : goal.returns-in_err-map_part
returns-in_err-map_part g c = λ may.
    handed_on (λ r. IsLoaded g.M.Mapper g.G.Gmi c.args.mapper.now c.args.self.now may.front c.args.text c.args.data_pages c.args.stack_pages r c.args.mapper.now c.map_part.new.self)
    c.from_residual.result _ c.from_residual.ensures.1
    (no_text g.M.Mapper g.G.Gmi c.args.mapper.now c.args.self.now c.requires.can c.args.text c.args.data_pages c.args.stack_pages may _ _ (text_maps g.M.Mapper g.G.Gmi c.args.mapper.now c.args.self.now c.requires.can c.args.text c.args.data_pages c.args.stack_pages may (c.len-place.result - 1) (place_is _ may c.len-place.result (c.len-place.ensures ∙ c.args.self.now.processes.ok.0)) (Err c.in_err-map_part.field-0.0) c.map_part.new.self c.in_err-map_part.ensures))

pub add_own-requires-clause-can : goal.add_own-requires-clause-can
add_own-requires-clause-can g c =
    let i = text_maps g.M.Mapper g.G.Gmi c.args.mapper.now c.args.self.now c.requires.can c.args.text c.args.data_pages c.args.stack_pages c.requires.may (c.len-place.result - 1) (place_is _ c.requires.may c.len-place.result (c.len-place.ensures ∙ c.args.self.now.processes.ok.0)) (Ok tt) c.map_part.new.self c.in_ok-map_part.ensures in
    i.can

pub add_own-requires-clause-may : goal.add_own-requires-clause-may
add_own-requires-clause-may g c =
    let i = text_maps g.M.Mapper g.G.Gmi c.args.mapper.now c.args.self.now c.requires.can c.args.text c.args.data_pages c.args.stack_pages c.requires.may (c.len-place.result - 1) (place_is _ c.requires.may c.len-place.result (c.len-place.ensures ∙ c.args.self.now.processes.ok.0)) (Ok tt) c.map_part.new.self c.in_ok-map_part.ensures in
    (i.put.now, data_may g.M.Mapper g.G.Gmi c.args.mapper.now c.args.self.now c.requires.can c.args.text c.args.data_pages c.args.stack_pages c.requires.may (c.len-place.result - 1) (place_is _ c.requires.may c.len-place.result (c.len-place.ensures ∙ c.args.self.now.processes.ok.0)) _ i)

pub add_own-requires-clause-made : goal.add_own-requires-clause-made
add_own-requires-clause-made g c =
    let i = text_maps g.M.Mapper g.G.Gmi c.args.mapper.now c.args.self.now c.requires.can c.args.text c.args.data_pages c.args.stack_pages c.requires.may (c.len-place.result - 1) (place_is _ c.requires.may c.len-place.result (c.len-place.ensures ∙ c.args.self.now.processes.ok.0)) (Ok tt) c.map_part.new.self c.in_ok-map_part.ensures in
    made1 g.M.Mapper g.G.Gmi c.args.mapper.now c.args.self.now c.requires.can c.args.text c.args.data_pages c.args.stack_pages c.requires.may _ i c.requires.made

pub returns-in_err-add_own : goal.returns-in_err-add_own
returns-in_err-add_own g c = λ may.
    let i = text_maps g.M.Mapper g.G.Gmi c.args.mapper.now c.args.self.now c.requires.can c.args.text c.args.data_pages c.args.stack_pages may (c.len-place.result - 1) (place_is _ may c.len-place.result (c.len-place.ensures ∙ c.args.self.now.processes.ok.0)) (Ok tt) c.map_part.new.self c.in_ok-map_part.ensures in
    handed_on (λ r. IsLoaded g.M.Mapper g.G.Gmi c.args.mapper.now c.args.self.now may.front c.args.text c.args.data_pages c.args.stack_pages r c.add_own.new.mapper c.add_own.new.self)
    c.from_residual-in_err-add_own.result _ c.from_residual-in_err-add_own.ensures.1
    (no_data g.M.Mapper g.G.Gmi c.args.mapper.now c.args.self.now c.requires.can c.args.text c.args.data_pages c.args.stack_pages may _ i _ _ _ (data_adds g.M.Mapper g.G.Gmi c.args.mapper.now c.args.self.now c.requires.can c.args.text c.args.data_pages c.args.stack_pages may (c.len-place.result - 1) (place_is _ may c.len-place.result (c.len-place.ensures ∙ c.args.self.now.processes.ok.0)) _ i _ _ _ c.in_err-add_own.ensures))

pub add_own-requires-2-clause-can : goal.add_own-requires-2-clause-can
add_own-requires-2-clause-can g c =
    let i = text_maps g.M.Mapper g.G.Gmi c.args.mapper.now c.args.self.now c.requires.can c.args.text c.args.data_pages c.args.stack_pages c.requires.may (c.len-place.result - 1) (place_is _ c.requires.may c.len-place.result (c.len-place.ensures ∙ c.args.self.now.processes.ok.0)) (Ok tt) c.map_part.new.self c.in_ok-map_part.ensures in
    let a = data_adds g.M.Mapper g.G.Gmi c.args.mapper.now c.args.self.now c.requires.can c.args.text c.args.data_pages c.args.stack_pages c.requires.may (c.len-place.result - 1) (place_is _ c.requires.may c.len-place.result (c.len-place.ensures ∙ c.args.self.now.processes.ok.0)) _ i _ _ _ c.in_ok-add_own.ensures in
    a.can

pub add_own-requires-2-clause-may : goal.add_own-requires-2-clause-may
add_own-requires-2-clause-may g c =
    let i = text_maps g.M.Mapper g.G.Gmi c.args.mapper.now c.args.self.now c.requires.can c.args.text c.args.data_pages c.args.stack_pages c.requires.may (c.len-place.result - 1) (place_is _ c.requires.may c.len-place.result (c.len-place.ensures ∙ c.args.self.now.processes.ok.0)) (Ok tt) c.map_part.new.self c.in_ok-map_part.ensures in
    let a = data_adds g.M.Mapper g.G.Gmi c.args.mapper.now c.args.self.now c.requires.can c.args.text c.args.data_pages c.args.stack_pages c.requires.may (c.len-place.result - 1) (place_is _ c.requires.may c.len-place.result (c.len-place.ensures ∙ c.args.self.now.processes.ok.0)) _ i _ _ _ c.in_ok-add_own.ensures in
    (a.adds.put.now, stack_may g.M.Mapper g.G.Gmi c.args.mapper.now c.args.self.now c.requires.can c.args.text c.args.data_pages c.args.stack_pages c.requires.may (c.len-place.result - 1) (place_is _ c.requires.may c.len-place.result (c.len-place.ensures ∙ c.args.self.now.processes.ok.0)) _ i _ _ _ a)

pub add_own-requires-2-clause-made : goal.add_own-requires-2-clause-made
add_own-requires-2-clause-made g c =
    let i = text_maps g.M.Mapper g.G.Gmi c.args.mapper.now c.args.self.now c.requires.can c.args.text c.args.data_pages c.args.stack_pages c.requires.may (c.len-place.result - 1) (place_is _ c.requires.may c.len-place.result (c.len-place.ensures ∙ c.args.self.now.processes.ok.0)) (Ok tt) c.map_part.new.self c.in_ok-map_part.ensures in
    let a = data_adds g.M.Mapper g.G.Gmi c.args.mapper.now c.args.self.now c.requires.can c.args.text c.args.data_pages c.args.stack_pages c.requires.may (c.len-place.result - 1) (place_is _ c.requires.may c.len-place.result (c.len-place.ensures ∙ c.args.self.now.processes.ok.0)) _ i _ _ _ c.in_ok-add_own.ensures in
    made2 g.M.Mapper g.G.Gmi c.args.mapper.now c.args.self.now c.requires.can c.args.text c.args.data_pages c.args.stack_pages c.requires.may _ i _ _ _ a c.requires.made

pub returns : goal.returns
returns g c = λ may.
    let i = text_maps g.M.Mapper g.G.Gmi c.args.mapper.now c.args.self.now c.requires.can c.args.text c.args.data_pages c.args.stack_pages may (c.len-place.result - 1) (place_is _ may c.len-place.result (c.len-place.ensures ∙ c.args.self.now.processes.ok.0)) (Ok tt) c.map_part.new.self c.in_ok-map_part.ensures in
    let a = data_adds g.M.Mapper g.G.Gmi c.args.mapper.now c.args.self.now c.requires.can c.args.text c.args.data_pages c.args.stack_pages may (c.len-place.result - 1) (place_is _ may c.len-place.result (c.len-place.ensures ∙ c.args.self.now.processes.ok.0)) _ i _ _ _ c.in_ok-add_own.ensures in
    stacked g.M.Mapper g.G.Gmi c.args.mapper.now c.args.self.now c.requires.can c.args.text c.args.data_pages c.args.stack_pages may _ i _ _ _ a _ _ _ (stack_adds g.M.Mapper g.G.Gmi c.args.mapper.now c.args.self.now c.requires.can c.args.text c.args.data_pages c.args.stack_pages may (c.len-place.result - 1) (place_is _ may c.len-place.result (c.len-place.ensures ∙ c.args.self.now.processes.ok.0)) _ i _ _ _ a _ _ _ c.add_own-2.ensures)
