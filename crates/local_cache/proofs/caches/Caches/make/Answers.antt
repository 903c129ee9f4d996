use Rattle.std.proofs.Common.{◌≡◌, ◌<◌, ◌+◌, ℕ, None, ap, arith}
use Rattle.std.specs.FinMap as map
use Rattle.local_cache.specs.Arena.{Arena}
use Rattle.local_cache.specs.NodeKeys.{page_number}
use Rattle.vm_ids.specs.declared.numbers.CacheId.{CacheId}
use Rattle.local_cache.specs.NodeCells.{own_of_plain}
use Rattle.local_cache.proofs.ArenaBy.Calls.{next_free}
use Rattle.local_cache.proofs.ArenaBy.Placed.{next_vacant}
use Rattle.local_cache.proofs.ArenaBy.Seen.{make_call, make_right, made_seen}
use Rattle.local_cache.proofs.NewCache.FoundPages.{made_pages, made_stays, made_tables}
use Rattle.local_cache.proofs.caches.Caches.make.Goals as goal

pub overflow_add-cache : goal.overflow_add-cache
overflow_add-cache c =
    let count = made_seen c.self.inside.nodes c.self.inside.list c.args.self.now c.self.view_is in
    omega (arith, c.made.ensures, count, c.requires.number)

pub make_pages-requires-clause-cache : goal.make_pages-requires-clause-cache
make_pages-requires-clause-cache c = omega (arith, c.made.ensures, made_seen c.self.inside.nodes c.self.inside.list c.args.self.now c.self.view_is, c.requires.number)

pub make_pages-requires-clause-room : goal.make_pages-requires-clause-room
make_pages-requires-clause-room c = omega (arith, c.requires.nodes, ap (λ (a : Arena). a.room.nodes) c.self.view_is)

pub make_pages-requires-clause-vacant : goal.make_pages-requires-clause-vacant
make_pages-requires-clause-vacant c page less =
    next_vacant c.self.inside.nodes c.self.inside.list.rows c.self.invariant.placed (c.made.result + 1) page (omega (arith, c.made.ensures)) (omega (arith, less, c.ranges.pages.fits))

pub make_pages-requires-clause-numbers : goal.make_pages-requires-clause-numbers
make_pages-requires-clause-numbers c =
    next_free c.self.inside.nodes c.self.inside.list c.self.invariant.placed (record { 0 = c.made.result + 1 }) c.args.pages
    (ap (λ k. k + 1) c.made.ensures) (make_pages-requires-clause-cache c) (omega (arith, c.ranges.pages.fits))

pub push-requires-clause-number : goal.push-requires-clause-number
push-requires-clause-number c =
    let count = made_seen c.self.inside.nodes c.self.inside.list c.args.self.now c.self.view_is in
    omega (arith, count, c.requires.number)

abbrev cache : goal.After-push → CacheId
cache c = record { 0 = c.made.result + 1 }

free : (c : goal.After-push) (page : ℕ) → page < c.args.pages → map.get c.self.inside.nodes.cells (page_number (c.made.result + 1) page) ≡ None
free c =
    next_free c.self.inside.nodes c.self.inside.list c.self.invariant.placed (cache c) c.args.pages
    (ap (λ k. k + 1) c.made.ensures) (omega (arith, c.made.ensures, made_seen c.self.inside.nodes c.self.inside.list c.args.self.now c.self.view_is, c.requires.number)) (omega (arith, c.ranges.pages.fits))

pub invariant_of-self : goal.invariant_of-self
invariant_of-self c =
    make_right c.self.inside.nodes c.self.inside.list c.args.self.now c.self.view_is c.self.invariant c.make_pages.new.self c.push.new.self (cache c) c.args.segment (own_of_plain c.args.own) c.args.pages
    (omega (arith, c.ranges.pages.fits)) (ap (λ k. k + 1) c.made.ensures) (free c) c.make_pages.ensures c.push.ensures.changed

pub returns-clause-made : goal.returns-clause-made
returns-clause-made c =
    make_call c.self.inside.nodes c.self.inside.list c.args.self.now c.self.view_is c.self.invariant c.make_pages.new.self c.push.new.self (cache c) c.args.segment (own_of_plain c.args.own) c.args.pages
    (omega (arith, c.ranges.pages.fits)) (ap (λ k. k + 1) c.made.ensures) (free c) c.make_pages.ensures c.push.ensures.changed

pub returns-clause-pages : goal.returns-clause-pages
returns-clause-pages c page h = let m = returns-clause-made c in made_pages c.args.self.now _ (cache c) c.args.segment (own_of_plain c.args.own) m.0 page m.2 (omega (arith, m.1))

pub returns-clause-stays : goal.returns-clause-stays
returns-clause-stays c = let m = returns-clause-made c in made_stays c.args.self.now _ (cache c) c.args.segment (own_of_plain c.args.own) m.0 m.2

pub returns-clause-tables : goal.returns-clause-tables
returns-clause-tables c = let m = returns-clause-made c in made_tables c.args.self.now _ (cache c) c.args.segment (own_of_plain c.args.own) m.0 m.2
