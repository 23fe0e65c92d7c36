use mathlib.Core.Path.{refl}
use Rattle.operation.specs.Roles.{roles_of}
use Rattle.operation_decide.specs.Laws.Codes.{listed_told}
use Rattle.operation_decide.proofs.decide_listed.Goals as goal

pub returns-in-Nop : goal.returns-in-Nop
unfolding roles_of
returns-in-Nop c = λ row code program s d own. listed_told row _ _ _ _ _ _ _ _ _ _ _ _ _ _ c.in-Nop.is refl (c.nop.ensures row _ _ _ _ _ _ _ own)

pub returns-in-Three : goal.returns-in-Three
unfolding roles_of
returns-in-Three c = λ row code program s d own. listed_told row _ _ _ _ _ _ _ _ _ _ _ _ _ _ c.in-Three.is refl (c.three.ensures row _ _ _ _ _ s own)

pub returns-in-Two : goal.returns-in-Two
unfolding roles_of
returns-in-Two c = λ row code program s d own. listed_told row _ _ _ _ _ _ _ _ _ _ _ _ _ _ c.in-Two.is refl (c.two.ensures row _ _ _ _ _ s own)

pub returns-in-One : goal.returns-in-One
unfolding roles_of
returns-in-One c = λ row code program s d own. listed_told row _ _ _ _ _ _ _ _ _ _ _ _ _ _ c.in-One.is refl (c.one.ensures row _ _ _ _ _ _ _ s own)

pub returns-in-Branch : goal.returns-in-Branch
unfolding roles_of
returns-in-Branch c = λ row code program s d own. listed_told row _ _ _ _ _ _ _ _ _ _ _ _ _ _ c.in-Branch.is refl (c.branch-c.ensures row _ _ _ _ _ s own)

pub returns-in-Call : goal.returns-in-Call
unfolding roles_of
returns-in-Call c = λ row code program s d own. listed_told row _ _ _ _ _ _ _ _ _ _ _ _ _ _ c.in-Call.is refl (c.call.ensures row _ _ _ _ _ s own)

pub returns-in-Create : goal.returns-in-Create
unfolding roles_of
returns-in-Create c = λ row code program s d own. listed_told row _ _ _ _ _ _ _ _ _ _ _ _ _ _ c.in-Create.is refl (c.create.ensures row _ _ _ s own)

pub returns-in-Quit : goal.returns-in-Quit
unfolding roles_of
returns-in-Quit c = λ row code program s d own. listed_told row _ _ _ _ _ _ _ _ _ _ _ _ _ _ c.in-Quit.is refl (c.quit.ensures row _ _ _ _ _ s own)

pub returns-in-LoadIndirect : goal.returns-in-LoadIndirect
unfolding roles_of
returns-in-LoadIndirect c = λ row code program s d own. listed_told row _ _ _ _ _ _ _ _ _ _ _ _ _ _ c.in-LoadIndirect.is refl (c.load_indirect.ensures row _ _ _ _ s d own)

pub returns-in-LoadIndexed : goal.returns-in-LoadIndexed
unfolding roles_of
returns-in-LoadIndexed c = λ row code program s d own. listed_told row _ _ _ _ _ _ _ _ _ _ _ _ _ _ c.in-LoadIndexed.is refl (c.load_indexed.ensures row _ _ _ _ s d own)

pub returns-in-StoreIndirect : goal.returns-in-StoreIndirect
unfolding roles_of
returns-in-StoreIndirect c = λ row code program s d own. listed_told row _ _ _ _ _ _ _ _ _ _ _ _ _ _ c.in-StoreIndirect.is refl (c.store_indirect.ensures row _ _ _ _ s d own)

pub returns-in-StoreIndexed : goal.returns-in-StoreIndexed
unfolding roles_of
returns-in-StoreIndexed c = λ row code program s d own. listed_told row _ _ _ _ _ _ _ _ _ _ _ _ _ _ c.in-StoreIndexed.is refl (c.store_indexed.ensures row _ _ _ _ s d own)
