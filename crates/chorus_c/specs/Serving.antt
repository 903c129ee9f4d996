-- What a call of the library does.
use Rattle.std.specs.Prelude.{◌≡◌, ◌≢◌, ◌≤◌, ◌<◌, ◌||◌, ◌==◌, ◌^◌, ℕ, Bool, None, Option, Some, false, if◌then◌else◌, nat_lt}
use Rattle.vm_ids.specs.declared.command.Command.{Command}
use Rattle.vm_model.specs.Answering.{Answer}
use Rattle.chorus_c.specs.Exchanging.{answer_number, command_of, with_answer}
use Rattle.chorus_c.specs.Parts.{Answers, IsOpened, Parts}
use Rattle.chorus_c.specs.declared.exchange.Exchange.{Exchange}
use Rattle.chorus_c.specs.declared.exchange.TheConstants.{CLOSE}
use Rattle.chorus_c.specs.declared.handle.Handle.{Handle}
use Rattle.chorus_c.specs.declared.handle.Handle.TheVariants.{Closed, Open}

-- no machine has fewer than 3 or more than 65,536 page frames, or pages of no or more than 65,536
-- bytes
abbrev pub is_misfit : ℕ → ℕ → Bool
is_misfit frames page =
    nat_lt frames 3 || nat_lt 65536 frames || page == 0 || nat_lt 65536 page

-- A machine that begins is open where it could be made. Else it is closed for its sizes, which is
-- 300, or for want of memory, which is 200.
abbrev pub Begun : ℕ → ℕ → ℕ → Handle → Type 0
Begun frames page swap (Open c) = (is_misfit frames page ≡ false) × IsOpened frames page swap c
Begun frames page swap (Closed why) = why ≡ (if is_misfit frames page then 300 else 200)

-- It tells why it did nothing: all is as before.
pub record IsLeft {M : Type 0} (why : ℕ) (m : M) (e : Exchange) (result : ℕ) (n : M) (f : Exchange)
    : Type 0 where
  pub number : result ≡ why
  pub machine : n ≡ m
  pub exchange : f ≡ e

-- The command is answered, and the exchange tells the answer.
pub record IsCarriedOut (command : Command) (c : Parts) (e : Exchange) (result : ℕ) (d : Parts)
    (f : Exchange) : Type 0 where
  pub answer : Answer
  pub answers : Answers c command answer d
  pub number : result ≡ answer_number answer
  pub told : f ≡ with_answer e answer

-- It is 301 exactly where the bound of the counters is reached.
pub record IsAnswered (command : Command) (c : Parts) (e : Exchange) (result : ℕ) (d : Parts)
    (f : Exchange) : Type 0 where
  pub worn : 2 ^ 62 < c.bound → IsLeft 301 c e result d f
  pub carried : c.bound ≤ 2 ^ 62 → IsCarriedOut command c e result d f

-- an exchange is answered by the command for which it asks; where it asks for none it is 300
abbrev pub AnsweredBy : Option Command → Parts → Exchange → ℕ → Parts → Exchange → Type 0
AnsweredBy None c e result d f = IsLeft 300 c e result d f
AnsweredBy (Some command) c e result d f = IsAnswered command c e result d f

-- it is open, with these parts
abbrev pub IsOpenWith : (Parts → Type 0) → Handle → Type 0
IsOpenWith P (Open c) = P c
IsOpenWith P (Closed why) = ⊥

-- it is closed now, and a later call is 300
pub record IsClosed (e : Exchange) (result : ℕ) (h : Handle) (f : Exchange) : Type 0 where
  pub number : result ≡ 0
  pub machine : h ≡ Closed 300
  pub exchange : f ≡ e

-- A call of an open machine: it is closed exactly where the exchange asks for that.
pub record IsServed (c : Parts) (e : Exchange) (result : ℕ) (h : Handle) (f : Exchange)
    : Type 0 where
  pub closed : e.call ≡ CLOSE → IsClosed e result h f
  pub answered : e.call ≢ CLOSE
      → IsOpenWith (λ d. AnsweredBy (command_of e) c e result d f) h

-- One call, with a machine and an exchange before and after it: a closed machine tells why it is
-- closed.
abbrev pub Served : Handle → Exchange → ℕ → Handle → Exchange → Type 0
Served (Open c) e result h f = IsServed c e result h f
Served (Closed why) e result h f = IsLeft why (Closed why) e result h f
