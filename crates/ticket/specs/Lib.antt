pub mod Ticket
pub mod TicketLaws
pub mod Questions
