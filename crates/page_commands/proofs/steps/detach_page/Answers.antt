use Rattle.page_commands.proofs.RetiredPages.Detached.{detached_can, detached_forest, detached_frames, detached_kept, detached_more, detached_room}
use Rattle.page_commands.proofs.steps.detach_page.Goals as goal

pub follow-requires : goal.follow-requires
follow-requires c = detached_can c.args.store.now c.args.caches.now c.detach-released.new.caches c.args.cache c.args.page c.args.state c.detach-released.result c.detach-released.ensures.alone c.requires.sound c.requires.tied c.requires.unpinned c.requires.may

pub returns-clause-forest : goal.returns-clause-forest
returns-clause-forest c =
    detached_forest c.args.store.now c.args.caches.now c.detach-released.new.caches c.args.cache c.args.page c.args.state c.detach-released.result c.detach-released.ensures.alone c.requires.sound c.requires.tied c.requires.unpinned c.requires.may
    c.requires.unclean c.requires.fresh c.follow.new.store c.follow.ensures.store c.follow.ensures.tables

pub returns-clause-frames : goal.returns-clause-frames
returns-clause-frames c =
    detached_frames c.args.store.now c.args.caches.now c.detach-released.new.caches c.args.cache c.args.page c.args.state c.detach-released.result c.detach-released.ensures.alone c.requires.sound c.requires.tied c.requires.unpinned c.requires.may
    c.requires.unclean c.requires.fresh c.follow.new.store c.follow.ensures.store c.follow.ensures.tables

pub returns-clause-kept : goal.returns-clause-kept
returns-clause-kept c =
    detached_kept c.args.store.now c.args.caches.now c.detach-released.new.caches c.args.cache c.args.page c.args.state c.detach-released.result c.detach-released.ensures.alone c.requires.sound c.requires.tied c.requires.unpinned c.requires.may
    c.requires.unclean c.requires.fresh c.follow.new.store c.follow.ensures.store c.follow.ensures.tables

pub returns-clause-room : goal.returns-clause-room
returns-clause-room c =
    detached_room c.args.store.now c.args.caches.now c.detach-released.new.caches c.args.cache c.args.page c.args.state c.detach-released.result c.detach-released.ensures.alone c.requires.sound c.requires.tied c.requires.unpinned c.requires.may
    c.requires.unclean c.requires.fresh c.follow.new.store c.follow.ensures.store c.follow.ensures.tables

pub returns-clause-more : goal.returns-clause-more
returns-clause-more c =
    detached_more c.args.store.now c.args.caches.now c.detach-released.new.caches c.args.cache c.args.page c.args.state c.detach-released.result c.detach-released.ensures.alone c.requires.sound c.requires.tied c.requires.unpinned c.requires.may
    c.requires.unclean c.requires.fresh c.follow.new.store c.follow.ensures.store c.follow.ensures.tables

pub returns-clause-detached : goal.returns-clause-detached
returns-clause-detached c n at = (c.detach-released.result, c.detach-released.ensures.detached n at)
