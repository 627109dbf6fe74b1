-- Laws about fields: the row of a slot, adding and changing a field, and dropping the fields of a group.
pub mod Row
pub mod Changes
pub mod Drop
pub mod Memory
