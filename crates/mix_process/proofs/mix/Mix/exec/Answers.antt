use Rattle.std.proofs.Common.{sym}
use Rattle.std.proofs.lemmas.Result.{err_from_is_err_and}
use Rattle.mix_process.proofs.Commands.Exec.{finished, image_cache, large, last_alive, made_now, may_load, not_begun, not_checked, not_opened}
use Rattle.mix_process.proofs.mix.Mix.exec.Goals as goal

pub returns-then-is_too_large : goal.returns-then-is_too_large
returns-then-is_too_large g c = large g.M.Mapper g.G.Gmi c.args.self.now c.args.mapper.now c.requires.can c.args.seg c.args.text_pages c.args.data_pages c.args.stack_pages (sym c.if-is_too_large.ensures)

pub returns-in_err-image : goal.returns-in_err-image
returns-in_err-image g c =
    let p = err_from_is_err_and c.from_residual.result c.from_residual.ensures.1 in
    let opened = rw c.in_err-image.was at c.open_image.ensures in
    rw (p.1, p.2) (not_opened g.M.Mapper g.G.Gmi c.args.self.now c.args.mapper.now c.requires.can c.args.seg c.args.text_pages c.args.data_pages c.args.stack_pages (sym c.if-is_too_large.ensures) c.in_err-image.field-0.0 _ _ opened)

pub returns-in_err-check_image : goal.returns-in_err-check_image
returns-in_err-check_image g c =
    let p = err_from_is_err_and c.from_residual-in_err-check_image.result c.from_residual-in_err-check_image.ensures.1 in
    let opened = rw c.in_ok-image.was at c.open_image.ensures in
    let cache = image_cache g.M.Mapper g.G.Gmi c.args.self.now c.args.mapper.now c.requires.can c.args.seg c.args.text_pages c.args.data_pages c.args.stack_pages (sym c.if-is_too_large.ensures) _ _ c.in_ok-image.image opened in
    let checked = c.check_image.ensures (g.M.Mapper.held c.open_image.new.mapper) opened.can.valid opened.can.unlimited cache.0 cache.1 in
    rw (p.1, p.2) (not_checked g.M.Mapper g.G.Gmi c.args.self.now c.args.mapper.now c.requires.can c.args.seg c.args.text_pages c.args.data_pages c.args.stack_pages (sym c.if-is_too_large.ensures) _ _ c.in_ok-image.image opened c.in_err-check_image.field-0.0 (rw c.in_err-check_image.was at checked))

pub returns-in_err-make_process : goal.returns-in_err-make_process
returns-in_err-make_process g c =
    let p = err_from_is_err_and c.from_residual-in_err-make_process.result c.from_residual-in_err-make_process.ensures.1 in
    let opened = rw c.in_ok-image.was at c.open_image.ensures in
    let begun = c.make_process.ensures (g.M.Mapper.held c.open_image.new.mapper) (g.M.Mapper.page_bytes c.open_image.new.mapper) opened.can in
    rw (p.1, p.2) (not_begun g.M.Mapper g.G.Gmi c.args.self.now c.args.mapper.now c.requires.can c.args.seg c.args.text_pages c.args.data_pages c.args.stack_pages (sym c.if-is_too_large.ensures) _ _ c.in_ok-image.image opened c.in_err-make_process.field-0.0 _ (rw c.in_err-make_process.was at begun))

pub load_image-made-requires-clause-may : goal.load_image-made-requires-clause-may
load_image-made-requires-clause-may g c =
    let opened = rw c.in_ok-image.was at c.open_image.ensures in
    let cache = image_cache g.M.Mapper g.G.Gmi c.args.self.now c.args.mapper.now c.requires.can c.args.seg c.args.text_pages c.args.data_pages c.args.stack_pages (sym c.if-is_too_large.ensures) _ _ c.in_ok-image.image opened in
    let checked = rw c.in_ok-check_image.was at (c.check_image.ensures (g.M.Mapper.held c.open_image.new.mapper) opened.can.valid opened.can.unlimited cache.0 cache.1) in
    let begun = rw c.in_ok-make_process.was at (c.make_process.ensures (g.M.Mapper.held c.open_image.new.mapper) (g.M.Mapper.page_bytes c.open_image.new.mapper) opened.can) in
    may_load g.M.Mapper g.G.Gmi c.args.self.now c.args.mapper.now c.requires.can c.args.seg c.args.text_pages c.args.data_pages c.args.stack_pages (sym c.if-is_too_large.ensures) _ _ c.in_ok-image.image opened checked c.requires.text c.requires.some c.requires.stack _ begun

pub made_or_taken_back-requires-clause-can : goal.made_or_taken_back-requires-clause-can
made_or_taken_back-requires-clause-can g c =
    let opened = rw c.in_ok-image.was at c.open_image.ensures in
    let cache = image_cache g.M.Mapper g.G.Gmi c.args.self.now c.args.mapper.now c.requires.can c.args.seg c.args.text_pages c.args.data_pages c.args.stack_pages (sym c.if-is_too_large.ensures) _ _ c.in_ok-image.image opened in
    let checked = rw c.in_ok-check_image.was at (c.check_image.ensures (g.M.Mapper.held c.open_image.new.mapper) opened.can.valid opened.can.unlimited cache.0 cache.1) in
    let begun = rw c.in_ok-make_process.was at (c.make_process.ensures (g.M.Mapper.held c.open_image.new.mapper) (g.M.Mapper.page_bytes c.open_image.new.mapper) opened.can) in
    (c.load_image-made.ensures (may_load g.M.Mapper g.G.Gmi c.args.self.now c.args.mapper.now c.requires.can c.args.seg c.args.text_pages c.args.data_pages c.args.stack_pages (sym c.if-is_too_large.ensures) _ _ c.in_ok-image.image opened checked c.requires.text c.requires.some c.requires.stack _ begun)).can

pub made_or_taken_back-requires-clause-made : goal.made_or_taken_back-requires-clause-made
made_or_taken_back-requires-clause-made g c =
    let opened = rw c.in_ok-image.was at c.open_image.ensures in
    let cache = image_cache g.M.Mapper g.G.Gmi c.args.self.now c.args.mapper.now c.requires.can c.args.seg c.args.text_pages c.args.data_pages c.args.stack_pages (sym c.if-is_too_large.ensures) _ _ c.in_ok-image.image opened in
    let checked = rw c.in_ok-check_image.was at (c.check_image.ensures (g.M.Mapper.held c.open_image.new.mapper) opened.can.valid opened.can.unlimited cache.0 cache.1) in
    let begun = rw c.in_ok-make_process.was at (c.make_process.ensures (g.M.Mapper.held c.open_image.new.mapper) (g.M.Mapper.page_bytes c.open_image.new.mapper) opened.can) in
    made_now g.M.Mapper g.G.Gmi c.args.self.now c.args.mapper.now c.requires.can c.args.seg c.args.text_pages c.args.data_pages c.args.stack_pages (sym c.if-is_too_large.ensures) _ _ c.in_ok-image.image opened checked c.requires.text c.requires.some c.requires.stack _ begun _ _ _
    (c.load_image-made.ensures (may_load g.M.Mapper g.G.Gmi c.args.self.now c.args.mapper.now c.requires.can c.args.seg c.args.text_pages c.args.data_pages c.args.stack_pages (sym c.if-is_too_large.ensures) _ _ c.in_ok-image.image opened checked c.requires.text c.requires.some c.requires.stack _ begun)) c.requires.made

pub made_or_taken_back-requires-clause-last : goal.made_or_taken_back-requires-clause-last
made_or_taken_back-requires-clause-last g c =
    let opened = rw c.in_ok-image.was at c.open_image.ensures in
    let cache = image_cache g.M.Mapper g.G.Gmi c.args.self.now c.args.mapper.now c.requires.can c.args.seg c.args.text_pages c.args.data_pages c.args.stack_pages (sym c.if-is_too_large.ensures) _ _ c.in_ok-image.image opened in
    let checked = rw c.in_ok-check_image.was at (c.check_image.ensures (g.M.Mapper.held c.open_image.new.mapper) opened.can.valid opened.can.unlimited cache.0 cache.1) in
    let begun = rw c.in_ok-make_process.was at (c.make_process.ensures (g.M.Mapper.held c.open_image.new.mapper) (g.M.Mapper.page_bytes c.open_image.new.mapper) opened.can) in
    last_alive g.M.Mapper g.G.Gmi c.args.self.now c.args.mapper.now c.requires.can c.args.seg c.args.text_pages c.args.data_pages c.args.stack_pages (sym c.if-is_too_large.ensures) _ _ c.in_ok-image.image opened checked c.requires.text c.requires.some c.requires.stack _ begun _ _ _
    (c.load_image-made.ensures (may_load g.M.Mapper g.G.Gmi c.args.self.now c.args.mapper.now c.requires.can c.args.seg c.args.text_pages c.args.data_pages c.args.stack_pages (sym c.if-is_too_large.ensures) _ _ c.in_ok-image.image opened checked c.requires.text c.requires.some c.requires.stack _ begun))

pub returns : goal.returns
returns g c =
    let opened = rw c.in_ok-image.was at c.open_image.ensures in
    let cache = image_cache g.M.Mapper g.G.Gmi c.args.self.now c.args.mapper.now c.requires.can c.args.seg c.args.text_pages c.args.data_pages c.args.stack_pages (sym c.if-is_too_large.ensures) _ _ c.in_ok-image.image opened in
    let checked = rw c.in_ok-check_image.was at (c.check_image.ensures (g.M.Mapper.held c.open_image.new.mapper) opened.can.valid opened.can.unlimited cache.0 cache.1) in
    let begun = rw c.in_ok-make_process.was at (c.make_process.ensures (g.M.Mapper.held c.open_image.new.mapper) (g.M.Mapper.page_bytes c.open_image.new.mapper) opened.can) in
    finished g.M.Mapper g.G.Gmi c.args.self.now c.args.mapper.now c.requires.can c.args.seg c.args.text_pages c.args.data_pages c.args.stack_pages (sym c.if-is_too_large.ensures) _ _ c.in_ok-image.image opened checked c.requires.text c.requires.some c.requires.stack _ begun _ _ _
    (c.load_image-made.ensures (may_load g.M.Mapper g.G.Gmi c.args.self.now c.args.mapper.now c.requires.can c.args.seg c.args.text_pages c.args.data_pages c.args.stack_pages (sym c.if-is_too_large.ensures) _ _ c.in_ok-image.image opened checked c.requires.text c.requires.some c.requires.stack _ begun))
    _ _ _ c.made_or_taken_back.ensures
