-- Which calls of a mapper in memory fail.
use Rattle.std.specs.Prelude.{ℕ, ◌==◌, ◌&&◌, Bool, true, false, List}
use Rattle.std.specs.List.{list_any}
use Rattle.vm_port.specs.Calls.{next_call}
use Rattle.vm_port.specs.declared.memory.calls.CallKind.{CallKind}
use Rattle.vm_port.specs.declared.memory.calls.CallKind.TheVariants.{Size, PullIn, PushOut, Access, SwapIn, SwapOut}
use Rattle.vm_port.specs.declared.memory.calls.CallNo.{CallNo}
use Rattle.vm_port.specs.declared.memory.calls.Calls.{Calls}

abbrev pub is_kind : CallKind → CallKind → Bool
is_kind Size Size = true
is_kind PullIn PullIn = true
is_kind PushOut PushOut = true
is_kind Access Access = true
is_kind SwapIn SwapIn = true
is_kind SwapOut SwapOut = true
is_kind kind other = false

-- how many calls of a kind were made
abbrev pub count_of : CallKind → Calls → ℕ
count_of Size c = c.size
count_of PullIn c = c.pull_in
count_of PushOut c = c.push_out
count_of Access c = c.access
count_of SwapIn c = c.swap_in
count_of SwapOut c = c.swap_out

-- one more of a kind
abbrev pub counted : CallKind → Calls → Calls
counted Size c = record c { size = next_call c.size }
counted PullIn c = record c { pull_in = next_call c.pull_in }
counted PushOut c = record c { push_out = next_call c.push_out }
counted Access c = record c { access = next_call c.access }
counted SwapIn c = record c { swap_in = next_call c.swap_in }
counted SwapOut c = record c { swap_out = next_call c.swap_out }

-- the nth call of this kind is to fail
abbrev pub is_failing_call : List CallNo → CallKind → ℕ → Bool
is_failing_call fails kind nth =
    list_any (λ (c : CallNo). is_kind kind c.kind && c.nth == nth) fails
