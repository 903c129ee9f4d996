use Rattle.std.proofs.Common.{◌*◌, None, ap, is_some, refl, ◌∙◌}
use Rattle.vm_ids.proofs.Places.{count-replicate_none}
use Rattle.page_tables.specs.Translations.{entry_count}
use Rattle.pvm_core.proofs.Meaning.Empty.{none_sound, none_forest, none_full, none_sized, none_whole}
use Rattle.residency.specs.declared.store.Store.{Store}
use Rattle.pvm_core.proofs.Translating.Dropped.{none_right}
use Rattle.pvm_core.proofs.pvm.Pvm.new.Goals as goal

pub invariant_of-result : goal.invariant_of-result
invariant_of-result c = record {
  sound = (
      none_sound c.args.frames c.args.page c.new-2.result c.in_ok-store.store c.new-3.result c.requires.few c.requires.some c.requires.page c.new-2.ensures.nodes c.new-2.ensures.caches c.new-2.ensures.forest c.new-2.ensures.sound c.in_ok-store.ensures.is c.new-3.ensures.page c.new-3.ensures.actors
      );
  translated = none_right c.new-2.result c.in_ok-store.store c.new-3.result (4 * c.args.frames) (ap (λ (s : Store). s.tables) c.in_ok-store.ensures.is);
}

pub returns-clause-forest : goal.returns-clause-forest
returns-clause-forest c = λ h. none_forest h c.new-2.result c.in_ok-store.store c.new-2.ensures.nodes c.new-2.ensures.counters

pub returns-clause-valid : goal.returns-clause-valid
returns-clause-valid c = λ h. record {
  right = c.in_ok-store.ensures.right h None c.new-2.result c.new-2.ensures.nodes tt;
  sized = none_sized c.new-2.result h c.new-2.ensures.caches;
  full = none_full c.new-2.result c.new-3.result.page_bytes h c.new-2.ensures.caches;
  whole = none_whole h c.new-3.result.page_bytes c.new-2.result c.in_ok-store.store c.new-2.ensures.caches;
}

pub returns-clause-translations : goal.returns-clause-translations
returns-clause-translations c = ap (λ (s : Store). entry_count s.tables) c.in_ok-store.ensures.is ∙ count-replicate_none is_some (4 * c.args.frames) None refl
