-- The rows of a destroy.
use Rattle.std.proofs.Common.{◌≡◌, ℕ, ◌-◌, true, false, set, Some, None, refl}
use Rattle.vm_ids.specs.declared.refusal.Refusal.TheVariants as refusals
use Rattle.vm_ids.specs.declared.reply.Reply.TheVariants as replies
use Rattle.vm_model.specs.Answering.{destroy_of, is_mapped, refuse, reply, unless, with_some}
use Rattle.vm_model.specs.Machine.{Cache, Machine, cache_of}

module _ (m : Machine) (n : ℕ) where
  pub destroy_no_cache : cache_of m n ≡ None → destroy_of m n ≡ refuse m refusals.NoCache
  unfolding destroy_of with_some
  destroy_no_cache e = rw e refl

  module _ (c : Cache) (there : cache_of m n ≡ Some c) where
    pub destroy_in_use : is_mapped m n ≡ true → destroy_of m n ≡ refuse m refusals.InUse
    unfolding destroy_of with_some unless
    destroy_in_use e = rw (there, e) refl

    pub destroy_row : is_mapped m n ≡ false → destroy_of m n ≡ reply replies.Done (record m { caches = set m.caches (n - 1) None })
    unfolding destroy_of with_some unless
    destroy_row e = rw (there, e) refl
