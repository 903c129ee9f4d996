use Rattle.std.proofs.Common.{◌≡◌, ◌+◌, ◌-◌, List, length, Option, ap, sym, subst, ◌∙◌, arith}
use Rattle.local_cache.specs.declared.cache_list.CacheEntry.{CacheEntry}
use Rattle.local_cache.specs.ArenaBy.{CacheRows}
use Rattle.local_cache.specs.CacheList.{AreListsRight, rows_of}
use Rattle.local_cache.specs.RowChanges.{with_row}
use Rattle.local_cache.proofs.CacheList.Coming.{right_pushed, rows_pushed}
use Rattle.local_cache.proofs.CacheList.Reading.{made_is}
use Rattle.local_cache.proofs.cache_list.CacheList.push.Goals as goal

pub overflow_cast-result : goal.overflow_cast-result
overflow_cast-result c =
    let i = c.self.inside in
    omega (
      arith,
      c.len.ensures,
      c.push_reserved.ensures.len,
      i.entries.ok.0,
      made_is i.entries.items i.grants i.locks,
      ap (λ (r : CacheRows). length r.rows) c.self.view_is,
      c.requires.number,
    )

pub returns-clause-number : goal.returns-clause-number
returns-clause-number c =
    let i = c.self.inside in
    omega (
      arith,
      c.len.ensures,
      c.push_reserved.ensures.len,
      i.entries.ok.0,
      made_is i.entries.items i.grants i.locks,
      ap (λ (r : CacheRows). length r.rows) c.self.view_is,
    )

pub invariant_of-self : goal.invariant_of-self
invariant_of-self c =
    let i = c.self.inside in
    subst (λ (es : List (Option CacheEntry)). AreListsRight es i.grants i.locks (i.pages + c.args.pages) i.capacity i.locked) (sym c.push_reserved.ensures.items)
    (right_pushed i.entries.items i.grants i.locks i.pages i.capacity i.locked c.self.invariant c.args.segment c.args.pages
    (omega (arith, c.requires.entries, ap (λ (r : CacheRows). r.entries) c.self.view_is, c.self.invariant.fits))
    (omega (
      arith,
      made_is i.entries.items i.grants i.locks,
      ap (λ (r : CacheRows). length r.rows) c.self.view_is,
      c.requires.number,
    )))

pub returns-clause-changed : goal.returns-clause-changed
returns-clause-changed c =
    let i = c.self.inside in
    let rows = ap (λ (es : List (Option CacheEntry)). rows_of es i.grants i.locks) c.push_reserved.ensures.items
    ∙ rows_pushed i.entries.items i.grants i.locks i.pages i.capacity i.locked c.self.invariant c.args.segment c.args.pages
    (omega (arith, c.requires.entries, ap (λ (r : CacheRows). r.entries) c.self.view_is, c.self.invariant.fits)) in
    let places : c.push_reserved.new.self.cap - c.push_reserved.new.self.len ≡ i.entries.cap - i.entries.len - 1 =
    omega (arith, c.push_reserved.ensures.len, c.push_reserved.ensures.capacity) in
    let entries : i.capacity - (i.pages + c.args.pages) ≡ i.capacity - i.pages - c.args.pages = omega arith in
    (λ j. record { rows = rows j; copies = i.copies; places = places j; entries = entries j })
    ∙ ap (λ (r : CacheRows). with_row r c.args.segment c.args.pages) c.self.view_is
