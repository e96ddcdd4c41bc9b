use Rattle.registry_core.proofs.ToldCalls.{told-admitted, told-given_up, told-published, told-sealed}
use Rattle.registry_core.proofs.staying_laws.told_beside_loads.Goals as goal

pub returns-clause-admitted : goal.returns-clause-admitted
returns-clause-admitted c old new info answer ids place admits =
    told-admitted old new info answer ids place admits

pub returns-clause-published : goal.returns-clause-published
returns-clause-published c r id track start root ids place awaits =
    told-published r id track start root ids place awaits

pub returns-clause-sealed : goal.returns-clause-sealed
returns-clause-sealed c r id ids place = told-sealed r id ids place

pub returns-clause-ended : goal.returns-clause-ended
returns-clause-ended c old new id answer queries ids place used runs ends =
    told-given_up old new id answer queries ids place used runs ends
