pub mod CommandStatuses
pub mod ServerStatuses
pub mod GatewayStatuses
pub mod StatusCauses
pub mod Logs
pub mod NumberedStatuses
