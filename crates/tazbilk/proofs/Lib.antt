pub mod UnitsList
