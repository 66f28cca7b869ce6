use Rattle.std.proofs.Common.{◌≡◌, List, ◌∷◌, Some, set, ap, ap₂, sym, subst, arith, All}
use Rattle.std.proofs.Common.{IsPermutation}
use Rattle.std.specs.List.{range_with_len}
use Rattle.std.specs.Vec.Iter.{into_iter_items}
use Rattle.std.proofs.lemmas.List.Elements.{All-head, All-tail}
use Rattle.std.proofs.lemmas.Option.{slice_get_within}
use Rattle.zs_pool.specs.Messages.{PolledValue, IsPollAmong, numbers_of}
use Rattle.zs_pool.proofs.Places.{slotted_none, slotted_more, slotted_all}
use Rattle.zs_pool.proofs.rounds.batches.place_batches.Goals as goal

pub loop-message-init : goal.loop-message-init
loop-message-init c =
    let rest : into_iter_items c.into_iter-message-iterator.result ≡ c.args.messages.items =
    c.into_iter-message-iterator.ensures.into_iter_gives.0 in
    let bs = c.args.batches.now.value.items in
    let P : List PolledValue → Type 0 = λ l. All (IsPollAmong c.args.now bs) l in
    let N : List PolledValue → Type 0 =
    λ l. IsPermutation (range_with_len 0 c.args.count) (numbers_of l) in (
      slotted_none c.args.now c.args.count bs c.resize_with.new.self.items
          (into_iter_items c.into_iter-message-iterator.result) c.requires.count
          (omega (arith, c.resize_with.new.self.ok.0, c.in_ok-resize_with.ensures.len))
          (subst N (sym rest) c.requires.whole),
      subst P (sym rest) c.requires.each,
    )

pub index_mut-requires : goal.index_mut-requires
index_mut-requires c =
    let step = c.in-Some.ensures.steps.0 in let bs = c.args.batches.now.value.items in
    let p : PolledValue = c.in-Some.message in
    let P : List PolledValue → Type 0 = λ l. All (IsPollAmong c.args.now bs) l in
    let mine = All-head (IsPollAmong c.args.now bs) p (into_iter_items c.next.new.self)
    (subst P step c.loop-message.invariant.1) in
    omega (
      arith,
      slice_get_within bs p.number mine.0 mine.1,
      c.loop-message.invariant.0.0,
      ap (λ m. m.number) c.message.view_is,
    )

pub loop-message-preserved : goal.loop-message-preserved
loop-message-preserved c =
    let step = c.in-Some.ensures.steps.0 in let bs = c.args.batches.now.value.items in
    let p : PolledValue = c.in-Some.message in
    let rest : List PolledValue = into_iter_items c.next.new.self in
    let slots = c.loop-message.slots.items in
    let P : List PolledValue → Type 0 = λ l. All (IsPollAmong c.args.now bs) l in
    let all : All (IsPollAmong c.args.now bs) (p ∷ rest) =
    subst P step c.loop-message.invariant.1 in
    let written : set slots c.message.inside.number c.replace.new.self
    ≡ set slots p.number (Some p) =
    ap₂ (λ n o. set slots n o) (ap (λ m. m.number) c.message.view_is)
    (c.replace.ensures.after) in (
      slotted_more c.args.now bs slots (set slots c.message.inside.number c.replace.new.self) p
          (into_iter_items c.loop-message.message-iterator) rest step written
          (All-head (IsPollAmong c.args.now bs) p rest all) c.loop-message.invariant.0,
      All-tail (IsPollAmong c.args.now bs) p rest all,
    )

pub returns-clause-placed : goal.returns-clause-placed
returns-clause-placed c =
    let it = c.loop-message.message-iterator in
    slotted_all c.args.now c.args.batches.now.value.items c.loop-message.slots.items
    (into_iter_items it) (omega (arith, it.rest.ok.0, c.in-None.ensures.steps.0))
    c.loop-message.invariant.0
