-- Laws about the check: it accepts exactly the valid stores, and a valid store holds a lawful book.
pub mod Check
pub mod Valid
pub mod Steps
pub mod Accepted
