use mathlib.Core.Path.{◌≡◌, refl, ◌∙◌}
use mathlib.Core.List.{[]}
use native.Mathlib.Omega.{arith}
use lib.ListN.{length}
use mir.Syntax.{w64}
use mir.ValLaws.{to_z-of_z}
use Rattle.model.specs.Command.{new, alloc, set, load, store, figure, field, command_of, registers_of}
use Rattle.question.proofs.Passing.{passed_on}
use Rattle.reader.specs.declared.Command.TheVariants.{New, Alloc, Set, Load, Store, Report, Figure}
use Rattle.reader.proofs.Fields.{field_one}
use Rattle.reader.proofs.Registers.{taken, first-high}
use Rattle.reader.proofs.Opcode.command.Goals as goal

pub returns-in-New : goal.returns-in-New
unfolding command_of
returns-in-New c =
    rw c.in-New.is (taken (New _ _ _ _) (λ k. new (record { n = c.short_at.ensures k; t = c.short_at-in-New.ensures k; s = c.short_at-in-New-2.ensures k; c = c.short_at-in-New-3.ensures k })))

pub returns-in_err-try_from-in-Alloc : goal.returns-in_err-try_from-in-Alloc
unfolding command_of registers_of
returns-in_err-try_from-in-Alloc c =
    let l : length c.args.w.now ≡ 9 = rw c.in-Alloc.is at c.requires in
    let (twelve, high) = c.in_err-try_from-in-Alloc.ensures in
    passed_on _ _ _ c.from_residual.ensures.1 ∙ rw (c.in-Alloc.is, twelve, first-high (field c.args.w.now 0 1) [] (rw (← field_one c.args.w.now 0 (omega arith)) high))

pub returns-in_ok-try_from-in-Alloc : goal.returns-in_ok-try_from-in-Alloc
unfolding command_of
returns-in_ok-try_from-in-Alloc c =
    let a = c.signed_at in
    let r = c.in_ok-try_from-in-Alloc in
    let l : length c.args.w.now ≡ 9 = rw c.in-Alloc.is at c.requires in
    rw (c.in-Alloc.is, to_z-of_z w64 a.result (record { sfits = a.type_inv }))
    (taken (Alloc r.field-0 a.result) (λ k. alloc ((r.ensures ∙ field_one c.args.w.now 0 (omega arith)) k) (a.ensures k)))

pub returns-in_err-try_from-in-Set : goal.returns-in_err-try_from-in-Set
unfolding command_of registers_of
returns-in_err-try_from-in-Set c =
    let l : length c.args.w.now ≡ 19 = rw c.in-Set.is at c.requires in
    let (twelve, high) = c.in_err-try_from-in-Set.ensures in
    passed_on _ _ _ c.from_residual-in_err-try_from-in-Set.ensures.1 ∙ rw (c.in-Set.is, twelve, first-high (field c.args.w.now 0 1) [] (rw (← field_one c.args.w.now 0 (omega arith)) high))

pub returns-in_ok-try_from-in-Set : goal.returns-in_ok-try_from-in-Set
unfolding command_of
returns-in_ok-try_from-in-Set c =
    let r = c.in_ok-try_from-in-Set in
    let l : length c.args.w.now ≡ 19 = rw c.in-Set.is at c.requires in
    rw c.in-Set.is (taken (Set r.field-0 _ _ _) (λ k. set ((r.ensures ∙ field_one c.args.w.now 0 (omega arith)) k) (c.short_at-in-Set.ensures k) (c.word_at.ensures k) (c.word_at-in-Set.ensures k)))

pub returns-in_err-access_of-in-Load : goal.returns-in_err-access_of-in-Load
unfolding command_of registers_of
returns-in_err-access_of-in-Load c =
    let (twelve, high) = c.in_err-access_of-in-Load.ensures in
    passed_on _ _ _ c.from_residual-in_err-access_of-in-Load.ensures.1 ∙ rw (c.in-Load.is, twelve, high)

pub returns-in_ok-access_of-in-Load : goal.returns-in_ok-access_of-in-Load
unfolding command_of
returns-in_ok-access_of-in-Load c =
    let a = c.in_ok-access_of-in-Load in
    rw c.in-Load.is (taken (Load a.field-0) (λ k. load (a.ensures.0 k) (a.ensures.1 k) (a.ensures.2 k)))

pub returns-in_err-access_of-in-Store : goal.returns-in_err-access_of-in-Store
unfolding command_of registers_of
returns-in_err-access_of-in-Store c =
    let (twelve, high) = c.in_err-access_of-in-Store.ensures in
    passed_on _ _ _ c.from_residual-in_err-access_of-in-Store.ensures.1 ∙ rw (c.in-Store.is, twelve, high)

pub returns-in_ok-access_of-in-Store : goal.returns-in_ok-access_of-in-Store
unfolding command_of
returns-in_ok-access_of-in-Store c =
    let a = c.in_ok-access_of-in-Store in
    rw c.in-Store.is (taken (Store a.field-0) (λ k. store (a.ensures.0 k) (a.ensures.1 k) (a.ensures.2 k)))

pub returns-in-Report : goal.returns-in-Report
unfolding command_of registers_of
returns-in-Report c = rw c.in-Report.is (taken Report refl)

pub returns-in_err-try_from-in-Figure : goal.returns-in_err-try_from-in-Figure
unfolding command_of registers_of
returns-in_err-try_from-in-Figure c =
    let l : length c.args.w.now ≡ 1 = rw c.in-Figure.is at c.requires in
    let (twelve, high) = c.in_err-try_from-in-Figure.ensures in
    passed_on _ _ _ c.from_residual-in_err-try_from-in-Figure.ensures.1 ∙ rw (c.in-Figure.is, twelve, first-high (field c.args.w.now 0 1) [] (rw (← field_one c.args.w.now 0 (omega arith)) high))

pub returns-in_ok-try_from-in-Figure : goal.returns-in_ok-try_from-in-Figure
unfolding command_of
returns-in_ok-try_from-in-Figure c =
    let r = c.in_ok-try_from-in-Figure in
    let l : length c.args.w.now ≡ 1 = rw c.in-Figure.is at c.requires in
    rw c.in-Figure.is (taken (Figure r.field-0) (λ k. figure ((r.ensures ∙ field_one c.args.w.now 0 (omega arith)) k)))
