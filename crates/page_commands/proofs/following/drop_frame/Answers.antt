use Rattle.std.proofs.Common.{sym, ap, ◌∙◌, ◌≡◌, ℕ, false, None, map, slice_set}
use Rattle.frame_pool.specs.Pool.{is_held, is_pinned}
use Rattle.global_map.specs.Pairs.{bound_times, frame_of}
use Rattle.page_tables.specs.Entries.{is_in_frame}
use Rattle.page_tables.specs.Translations.{unless}
use Rattle.residency.specs.declared.store.Store.{Store}
use Rattle.page_commands.proofs.NodesGone.Dropped.{found_at, got_frame}
use Rattle.page_commands.proofs.following.drop_frame.Goals as goal

pub give_back_frame-requires-clause-held : goal.give_back_frame-requires-clause-held
give_back_frame-requires-clause-held c =
    let at : frame_of c.args.store.now.map c.args.node.0 ≡ c.unwrap-frame.result.0 = got_frame (bound_times c.args.store.now.map c.args.node.0 ≡ 0) c.args.store.now.map c.args.node c.get.result c.unwrap-frame.result c.unwrap-frame.ensures (found_at c.args.store.now.map c.map.result.now c.args.node c.get.result c.map.ensures c.get.ensures.found) c.requires.bound in
    ap (λ (s : Store). is_held s.frames c.unwrap-frame.result.0) c.unbind.ensures ∙ ap (is_held c.args.store.now.frames) (sym at) ∙ c.requires.held

pub give_back_frame-requires-clause-unpinned : goal.give_back_frame-requires-clause-unpinned
give_back_frame-requires-clause-unpinned c =
    let at : frame_of c.args.store.now.map c.args.node.0 ≡ c.unwrap-frame.result.0 = got_frame (bound_times c.args.store.now.map c.args.node.0 ≡ 0) c.args.store.now.map c.args.node c.get.result c.unwrap-frame.result c.unwrap-frame.ensures (found_at c.args.store.now.map c.map.result.now c.args.node c.get.result c.map.ensures c.get.ensures.found) c.requires.bound in
    ap (λ (s : Store). is_pinned s.frames c.unwrap-frame.result.0) c.unbind.ensures ∙ ap (is_pinned c.args.store.now.frames) (sym at) ∙ c.requires.loose

pub returns : goal.returns
returns c =
    let at : frame_of c.args.store.now.map c.args.node.0 ≡ c.unwrap-frame.result.0 = got_frame (bound_times c.args.store.now.map c.args.node.0 ≡ 0) c.args.store.now.map c.args.node c.get.result c.unwrap-frame.result c.unwrap-frame.ensures (found_at c.args.store.now.map c.map.result.now c.args.node c.get.result c.map.ensures c.get.ensures.found) c.requires.bound in
    c.give_back_frame.ensures ∙ ap (λ (s : Store). record s { frames = record s.frames { held = slice_set s.frames.held c.unwrap-frame.result.0 false } }) c.unbind.ensures
    ∙ ap (λ (k : ℕ). record c.args.store.now { map = slice_set c.args.store.now.map (frame_of c.args.store.now.map c.args.node.0) None; tables = map (unless (is_in_frame (frame_of c.args.store.now.map c.args.node.0))) c.args.store.now.tables; frames = record c.args.store.now.frames { held = slice_set c.args.store.now.frames.held k false } }) (sym at)
