-- A schedule that collects nothing: its states have no output that is still to join a list.
use Rattle.std.proofs.Common.{◌≡◌, Bool, true, ◌&&◌}
use Rattle.zs_step.specs.Memory.{keeps_no_list}
use Rattle.zs_step.specs.State.{state_schedule, IsJoined}
use Rattle.zs_step.specs.declared.state.State.{State}
use Rattle.zs_step.specs.declared.state.State.TheVariants.{Leaf, Both', Either', AndThen'}
use Rattle.zs_step.specs.declared.state.State.TheVariants.{WhileInput', WhileOutput', CollectAll'}
use Rattle.zs_step.specs.declared.state.State.TheVariants.{Map', ResetWhen'}
use Rattle.zs_step.proofs.OutputKinds.{and-left, and-right}

-- what holds of both parts
both_joined : (a b : State) → (keeps_no_list (state_schedule a) ≡ true → IsJoined a)
    → (keeps_no_list (state_schedule b) ≡ true → IsJoined b)
    → (keeps_no_list (state_schedule a) && keeps_no_list (state_schedule b)) ≡ true
    → IsJoined a × IsJoined b
both_joined a b first second e =
    let x : Bool = keeps_no_list (state_schedule a) in
    let y : Bool = keeps_no_list (state_schedule b) in
    (first (and-left x y e), second (and-right x y e))

-- a state of such a schedule
pub listless_joined : (s : State) → keeps_no_list (state_schedule s) ≡ true → IsJoined s
listless_joined (Leaf l) e = tt
listless_joined (Both' p a b) e = both_joined a b (listless_joined a) (listless_joined b) e
listless_joined (Either' p a b) e = both_joined a b (listless_joined a) (listless_joined b) e
listless_joined (AndThen' done p a b) e =
    both_joined a b (listless_joined a) (listless_joined b) e
listless_joined (WhileInput' p s t) e = listless_joined s e
listless_joined (WhileOutput' p s k t) e = listless_joined s e
listless_joined (CollectAll' p s kept) e = cc
listless_joined (Map' p s f) e = listless_joined s e
listless_joined (ResetWhen' p s k t) e = listless_joined s e
